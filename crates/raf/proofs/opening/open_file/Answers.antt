use Rattle.std.proofs.Common.{Bool, false, ◌≡◌, ℕ, List, sym, ◌∙◌, ap, subst}
use Rattle.std.specs.Option.{option_map}
use Rattle.raf_format.specs.Cipher.{cipher_of}
use Rattle.raf_format.proofs.Ciphers.{lawful}
use Rattle.raf.specs.Handle.{Handle, handle_of}
use Rattle.raf.specs.Opening.{NotOpened, Opened, OpenedBare}
use Rattle.raf_io.specs.Kinds.{kind_of}
use Rattle.raf_io.specs.declared.errors.Error.{Error}
use Rattle.raf.proofs.HandedOn.{handed_on}
use Rattle.raf.proofs.Openings.{none_is, opened_plain, opened_grown, refused_grow}
use Rattle.raf.proofs.opening.open_file.Goals as goal

pub returns-then-is_none-clause-opened : goal.returns-then-is_none-clause-opened
returns-then-is_none-clause-opened g c =
    let C = cipher_of g.A.Algorithm.variant in
    let E = g.H.MerkleHasher.hashing in
    let key = g.A.Algorithm.key_list c.args.key.now in
    let old = c.args.parts.now in
    let mid = c.open_bare.new.parts in
    let most = option_map (λ (_ : List ℕ). c.args.max_chunks) old.setting in
    let f = c.in_ok-file.file in
    let bare = c.in_ok-file.ensures.opened in
    let plain : OpenedBare C E key most old (handle_of mid key f.header f.tree false) =
    subst (λ (b : Bool). OpenedBare C E key most old (handle_of mid key f.header f.tree b)) bare.unmarked
    (subst (λ (k : List ℕ). OpenedBare C E key most old (handle_of mid k f.header f.tree f.broken)) bare.key_is bare) in
    subst (λ (b : Bool). Opened C E key most old (handle_of mid (g.A.Algorithm.key_list f.key) f.header f.tree b)) (sym bare.unmarked)
    (subst (λ (k : List ℕ). Opened C E key most old (handle_of mid k f.header f.tree false)) (sym bare.key_is)
    (opened_plain C (lawful g.A.Algorithm.variant) E key most old mid f.header f.tree plain (none_is f.tree c.if-is_none.ensures)))

pub returns-in_err-grow_file-clause-refused : goal.returns-in_err-grow_file-clause-refused
returns-in_err-grow_file-clause-refused g c =
    let C = cipher_of g.A.Algorithm.variant in
    let E = g.H.MerkleHasher.hashing in
    let key = g.A.Algorithm.key_list c.args.key.now in
    let old = c.args.parts.now in
    let mid = c.open_bare.new.parts in
    let most = option_map (λ (_ : List ℕ). c.args.max_chunks) old.setting in
    let f = c.in_ok-file.file in
    let e = c.in_err-grow_file.field-0.0 in
    let bare = c.in_ok-file.ensures.opened in
    let plain : OpenedBare C E key most old (handle_of mid key f.header f.tree false) =
    subst (λ (b : Bool). OpenedBare C E key most old (handle_of mid key f.header f.tree b)) bare.unmarked
    (subst (λ (k : List ℕ). OpenedBare C E key most old (handle_of mid k f.header f.tree f.broken)) bare.key_is bare) in
    handed_on c.from_residual-in_err-grow_file.result e (λ (x : Error). NotOpened C E key most old c.grow_file.new.parts (kind_of x)) c.from_residual-in_err-grow_file.ensures.1
    (refused_grow C (lawful g.A.Algorithm.variant) E key most old mid f.header f.tree plain (g.A.Algorithm.key_list f.chunk_key)
    (f.derived ∙ ap (λ (k : List ℕ). C.chunk_key k f.header.id) bare.key_is) c.if-is_none.ensures c.grow_file.new.parts c.grow_file.new.file.tree c.grow_file.new.file.broken e c.in_err-grow_file.ensures.grew)

pub returns-clause-opened : goal.returns-clause-opened
returns-clause-opened g c =
    let C = cipher_of g.A.Algorithm.variant in
    let E = g.H.MerkleHasher.hashing in
    let key = g.A.Algorithm.key_list c.args.key.now in
    let old = c.args.parts.now in
    let mid = c.open_bare.new.parts in
    let new = c.grow_file.new.parts in
    let most = option_map (λ (_ : List ℕ). c.args.max_chunks) old.setting in
    let f = c.in_ok-file.file in
    let now = c.grow_file.new.file in
    let bare = c.in_ok-file.ensures.opened in
    let grown = c.in_ok-grow_file.ensures in
    let plain : OpenedBare C E key most old (handle_of mid key f.header f.tree false) =
    subst (λ (b : Bool). OpenedBare C E key most old (handle_of mid key f.header f.tree b)) bare.unmarked
    (subst (λ (k : List ℕ). OpenedBare C E key most old (handle_of mid k f.header f.tree f.broken)) bare.key_is bare) in
    let key_is : g.A.Algorithm.key_list now.key ≡ key = ap g.A.Algorithm.key_list grown.same.0 ∙ bare.key_is in
    subst (λ (k : Handle). Opened C E key most old k)
    (λ i. handle_of new (sym key_is i) (sym grown.same.1 i) now.tree (sym grown.unmarked i))
    (opened_grown C (lawful g.A.Algorithm.variant) E key most old mid f.header f.tree plain (g.A.Algorithm.key_list f.chunk_key)
    (f.derived ∙ ap (λ (k : List ℕ). C.chunk_key k f.header.id) bare.key_is) c.if-is_none.ensures new now.tree now.broken grown.grew)
