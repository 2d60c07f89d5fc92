use Rattle.std.proofs.Common.{false, ◌≡◌, ℕ, List, Option, refl, sym, ◌∙◌, ap, subst, arith}
use Rattle.std.specs.Option.{option_map}
use Rattle.std.proofs.lemmas.Bool.{false≢true}
use Rattle.raf_format.specs.Cipher.{cipher_of}
use Rattle.raf_format.specs.File.{chunk_count}
use Rattle.raf.specs.Handle.{Handle, handle_of}
use Rattle.raf.specs.Opening.{NotOpened, OpenedBare, WhyNoTree}
use Rattle.raf_io.specs.Kinds.{kind_of}
use Rattle.raf_io.specs.declared.errors.Error.{Error}
use Rattle.raf_io.specs.declared.errors.ErrorKind.{ErrorKind}
use Rattle.raf_io.specs.declared.errors.ErrorKind.TheVariants.{OutOfMemory}
use Rattle.raf.proofs.HandedOn.{handed_on}
use Rattle.raf.proofs.Headers.{tagged_front, tagged_whole}
use Rattle.raf.proofs.Headed.{refused_header, refused_tree, refused_tag, made_for}
use Rattle.raf.proofs.opening.open_bare.Goals as goal

pub returns-in_err-found-clause-refused : goal.returns-in_err-found-clause-refused
returns-in_err-found-clause-refused g c =
    let C = cipher_of g.A.Algorithm.variant in
    let E = g.H.MerkleHasher.hashing in
    let key = g.A.Algorithm.key_list c.args.key.now in
    let old = c.args.parts.now in
    let new = c.find_header.new.parts in
    let most = option_map (λ (_ : List ℕ). c.args.max_chunks) old.setting in
    let e = c.in_err-found.field-0.0 in
    let f = c.in_err-found.ensures in
    handed_on c.from_residual.result e (λ (x : Error). NotOpened C E key most old new (kind_of x)) c.from_residual.ensures.1
    (refused_header C E key most old new f.kept f.moved f.within (kind_of e) f.refused (f.numbers E old.setting most) f.fault)

pub returns-in_err-tree-clause-refused : goal.returns-in_err-tree-clause-refused
returns-in_err-tree-clause-refused g c =
    let C = cipher_of g.A.Algorithm.variant in
    let E = g.H.MerkleHasher.hashing in
    let key = g.A.Algorithm.key_list c.args.key.now in
    let old = c.args.parts.now in
    let new = c.find_header.new.parts in
    let most = option_map (λ (_ : List ℕ). c.args.max_chunks) old.setting in
    let e = c.in_err-tree.field-0.0 in
    let f = c.in_ok-found.ensures in
    let h = c.in_ok-found.found.header in
    let setting : option_map g.H.MerkleHasher.setting c.parts.inside.hasher ≡ old.setting = ap (λ o. o.setting) c.parts.view_is ∙ f.moved.setting in
    handed_on c.from_residual-in_err-tree.result e (λ (x : Error). NotOpened C E key most old new (kind_of x)) c.from_residual-in_err-tree.ensures.1
    (refused_tree C E key most old new f.kept f.moved f.within h (λ b tells. (f.found b tells).0) f.quiet (kind_of e)
    (subst (λ (o : Option (List ℕ)). WhyNoTree E o (option_map (λ (_ : List ℕ). c.args.max_chunks) o) (chunk_count h.chunk_size h.file_size) (kind_of e)) setting
    (subst (λ (n : ℕ). WhyNoTree E (option_map g.H.MerkleHasher.setting c.parts.inside.hasher) (option_map (λ (_ : List ℕ). c.args.max_chunks) (option_map g.H.MerkleHasher.setting c.parts.inside.hasher)) n (kind_of e))
    c.count_of-count.ensures c.in_err-tree.ensures.refused)))

pub returns-in_err-rooms-clause-refused : goal.returns-in_err-rooms-clause-refused
returns-in_err-rooms-clause-refused g c =
    let C = cipher_of g.A.Algorithm.variant in
    let E = g.H.MerkleHasher.hashing in
    let key = g.A.Algorithm.key_list c.args.key.now in
    let old = c.args.parts.now in
    let new = c.find_header.new.parts in
    let most = option_map (λ (_ : List ℕ). c.args.max_chunks) old.setting in
    let e = c.in_err-rooms.field-0.0 in
    let f = c.in_ok-found.ensures in
    let h = c.in_ok-found.found.header in
    handed_on c.from_residual-in_err-rooms.result e (λ (x : Error). NotOpened C E key most old new (kind_of x)) c.from_residual-in_err-rooms.ensures.1
    (subst (λ (k : ErrorKind). NotOpened C E key most old new k) (sym c.in_err-rooms.ensures.none)
    (refused_tree C E key most old new f.kept f.moved f.within h (λ b tells. (f.found b tells).0) f.quiet OutOfMemory tt))

pub returns-then-not-header_tag_fits-clause-refused : goal.returns-then-not-header_tag_fits-clause-refused
returns-then-not-header_tag_fits-clause-refused g c =
    let C = cipher_of g.A.Algorithm.variant in
    let E = g.H.MerkleHasher.hashing in
    let key = g.A.Algorithm.key_list c.args.key.now in
    let old = c.args.parts.now in
    let new = c.find_header.new.parts in
    let most = option_map (λ (_ : List ℕ). c.args.max_chunks) old.setting in
    let f = c.in_ok-found.ensures in
    let h = c.in_ok-found.found.header in
    let made = made_for E c.args.max_chunks (option_map g.H.MerkleHasher.setting c.parts.inside.hasher) old.setting c.count_of-count.result (chunk_count h.chunk_size h.file_size) c.in_ok-tree.tree
    (ap (λ o. o.setting) c.parts.view_is ∙ f.moved.setting) c.count_of-count.ensures c.in_ok-tree.ensures.made in
    refused_tag C E key most old new f.kept f.moved f.within h (λ b tells. (f.found b tells).0) f.quiet made.room
    (λ b tells tagged. false≢true (c.if-not-header_tag_fits.ensures.1 (tagged_front C key b c.in_ok-found.found.bytes (f.found b tells).1 tagged)))

pub returns-clause-opened : goal.returns-clause-opened
returns-clause-opened g c =
    let C = cipher_of g.A.Algorithm.variant in
    let E = g.H.MerkleHasher.hashing in
    let key = g.A.Algorithm.key_list c.args.key.now in
    let old = c.args.parts.now in
    let new = c.find_header.new.parts in
    let most = option_map (λ (_ : List ℕ). c.args.max_chunks) old.setting in
    let f = c.in_ok-found.ensures in
    let h = c.in_ok-found.found.header in
    let o = c.of.ensures in
    let made = made_for E c.args.max_chunks (option_map g.H.MerkleHasher.setting c.parts.inside.hasher) old.setting c.count_of-count.result (chunk_count h.chunk_size h.file_size) c.in_ok-tree.tree
    (ap (λ o. o.setting) c.parts.view_is ∙ f.moved.setting) c.count_of-count.ensures c.in_ok-tree.ensures.made in
    let bare : OpenedBare C E key most old (handle_of new key h c.in_ok-tree.tree false) = record {
      key_is = refl;
      unmarked = refl;
      made = made;
      sound = f.sound;
      is_file = λ b tells. let found = f.found b tells in record {
        says = found.0.says;
        algorithm = found.0.algorithm;
        length_fits = found.0.length_fits;
        below = omega (arith, found.0.length_fits, f.sound.below);
        tagged = tagged_whole C key b c.in_ok-found.found.bytes found.1 (c.if-not-header_tag_fits.ensures.0 refl);
      };
      quiet = f.quiet;
      kept = f.kept;
      moved = f.moved;
      within = f.within;
    } in
    subst (λ (k : Handle). OpenedBare C E key most old k)
    (λ i. handle_of new (g.A.Algorithm.key_list (sym o.key i)) (sym o.header i) (sym o.tree i) (sym o.unmarked i)) bare
