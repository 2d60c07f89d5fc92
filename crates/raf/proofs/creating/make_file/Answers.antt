use Rattle.std.proofs.Common.{ℕ, ◌≤◌, List, [], Some, refl, sym, ◌∙◌, ap, subst, arith}
use Rattle.std.specs.Option.{option_map}
use Rattle.std.specs.Prelude.{is_some}
use Rattle.raf_format.specs.Cipher.{cipher_of}
use Rattle.raf_format.proofs.Ciphers.{lawful}
use Rattle.raf_format.specs.Version.{IsVersion}
use Rattle.raf_format.specs.Header.{sealed_header}
use Rattle.raf_format.specs.declared.header.Header.{Header}
use Rattle.raf_io.specs.Kinds.{kind_of}
use Rattle.raf_io.specs.declared.errors.Error.{Error}
use Rattle.raf.specs.Handle.{Handle, handle_of}
use Rattle.raf.specs.Opening.{NotMade, Made, TreeMade}
use Rattle.raf.proofs.HandedOn.{handed_on}
use Rattle.raf.proofs.Headed.{made_for}
use Rattle.raf.proofs.Headers.{version_range}
use Rattle.raf.proofs.Places.{count_none}
use Rattle.raf.proofs.Makings.{refused_storage, refused_source, refused_hasher, refused_write, made_file, small_layout}
use Rattle.raf.proofs.creating.make_file.Goals as goal

pub returns-in_err-size-clause-refused : goal.returns-in_err-size-clause-refused
returns-in_err-size-clause-refused g c = λ s of.
    let C = cipher_of g.A.Algorithm.variant in
    let E = g.H.MerkleHasher.hashing in
    let key = g.A.Algorithm.key_list c.args.key.now in
    let old = c.args.parts.now in
    let fresh = c.args.fresh.now in
    let max = c.args.max_chunks in
    let tree = c.in_ok-tree.tree in
    let least : 16 ≤ fresh.chunk_size = omega (arith, c.if-fresh-lt16.false) in
    let most : fresh.chunk_size ≤ 1048576 = omega (arith, c.if-fresh-gt1048576.false) in
    let made : TreeMade E old.setting (option_map (λ (_ : List ℕ). max) old.setting) 0 tree =
    made_for E max (option_map g.H.MerkleHasher.setting c.parts.inside.hasher) old.setting 0 0 tree (ap (λ o. o.setting) c.parts.view_is) refl c.in_ok-tree.ensures.made in
    let p = c.freed.new.parts in
    let f = c.in_err-size.ensures in
    let e = c.in_err-size.field-0.0 in
    handed_on c.from_residual-in_err-size.result e (λ (x : Error). NotMade E s old p (kind_of x)) c.from_residual-in_err-size.ensures.1
    (refused_storage E s fresh max old of least most tree made p (kind_of e) f.failed f.exists f.kept f.moved f.strays)

pub returns-in_err-fill-clause-refused : goal.returns-in_err-fill-clause-refused
returns-in_err-fill-clause-refused g c = λ s of.
    let C = cipher_of g.A.Algorithm.variant in
    let E = g.H.MerkleHasher.hashing in
    let key = g.A.Algorithm.key_list c.args.key.now in
    let old = c.args.parts.now in
    let fresh = c.args.fresh.now in
    let max = c.args.max_chunks in
    let tree = c.in_ok-tree.tree in
    let least : 16 ≤ fresh.chunk_size = omega (arith, c.if-fresh-lt16.false) in
    let most : fresh.chunk_size ≤ 1048576 = omega (arith, c.if-fresh-gt1048576.false) in
    let made : TreeMade E old.setting (option_map (λ (_ : List ℕ). max) old.setting) 0 tree =
    made_for E max (option_map g.H.MerkleHasher.setting c.parts.inside.hasher) old.setting 0 0 tree (ap (λ o. o.setting) c.parts.view_is) refl c.in_ok-tree.ensures.made in
    let p = c.freed.new.parts in
    let f = c.in_ok-size.ensures in
    let size = c.in_ok-size.size in
    let q = c.fill.new.self in
    let d = c.in_err-fill.ensures in
    let e = c.in_err-fill.field-0.0 in
    handed_on c.from_residual-in_err-fill.result e (λ (x : Error). NotMade E s old q (kind_of x)) c.from_residual-in_err-fill.ensures.1
    (refused_source E s fresh max old of least most tree made p size f.size.0 f.size.1 f.quiet f.kept f.moved f.strays q (kind_of e) d.failed d.kept_left d.bytes d.durable d.short d.moved d.strays)

pub returns-in_err-build-clause-refused : goal.returns-in_err-build-clause-refused
returns-in_err-build-clause-refused g c = λ s of.
    let C = cipher_of g.A.Algorithm.variant in
    let E = g.H.MerkleHasher.hashing in
    let key = g.A.Algorithm.key_list c.args.key.now in
    let old = c.args.parts.now in
    let fresh = c.args.fresh.now in
    let max = c.args.max_chunks in
    let tree = c.in_ok-tree.tree in
    let least : 16 ≤ fresh.chunk_size = omega (arith, c.if-fresh-lt16.false) in
    let most : fresh.chunk_size ≤ 1048576 = omega (arith, c.if-fresh-gt1048576.false) in
    let made : TreeMade E old.setting (option_map (λ (_ : List ℕ). max) old.setting) 0 tree =
    made_for E max (option_map g.H.MerkleHasher.setting c.parts.inside.hasher) old.setting 0 0 tree (ap (λ o. o.setting) c.parts.view_is) refl c.in_ok-tree.ensures.made in
    let p = c.freed.new.parts in
    let f = c.in_ok-size.ensures in
    let size = c.in_ok-size.size in
    let q = c.fill.new.self in
    let id = c.fill.new.buf in
    let d = c.in_ok-fill.ensures in
    let r = c.build.new.self in
    let b = c.in_err-build.ensures in
    let e = c.in_err-build.field-0.0 in
    handed_on c.from_residual-in_err-build.result e (λ (x : Error). NotMade E s old r (kind_of x)) c.from_residual-in_err-build.ensures.1
    (refused_hasher E s fresh max old of least most tree made p size f.size.0 f.size.1 f.quiet f.kept f.moved f.strays q id c.fill.auto.buf d.taken d.bytes d.durable d.quiet d.moved d.strays r c.build.new.tree (kind_of e) (b.failed.0, b.failed.1) (ap is_some (sym (d.moved.setting ∙ f.moved.setting)) ∙ b.there) b.kept b.moved (b.one refl) b.strays)

pub returns-in_err-put_new-clause-refused : goal.returns-in_err-put_new-clause-refused
returns-in_err-put_new-clause-refused g c = λ s of.
    let C = cipher_of g.A.Algorithm.variant in
    let E = g.H.MerkleHasher.hashing in
    let key = g.A.Algorithm.key_list c.args.key.now in
    let old = c.args.parts.now in
    let fresh = c.args.fresh.now in
    let max = c.args.max_chunks in
    let tree = c.in_ok-tree.tree in
    let least : 16 ≤ fresh.chunk_size = omega (arith, c.if-fresh-lt16.false) in
    let most : fresh.chunk_size ≤ 1048576 = omega (arith, c.if-fresh-gt1048576.false) in
    let made : TreeMade E old.setting (option_map (λ (_ : List ℕ). max) old.setting) 0 tree =
    made_for E max (option_map g.H.MerkleHasher.setting c.parts.inside.hasher) old.setting 0 0 tree (ap (λ o. o.setting) c.parts.view_is) refl c.in_ok-tree.ensures.made in
    let p = c.freed.new.parts in
    let f = c.in_ok-size.ensures in
    let size = c.in_ok-size.size in
    let q = c.fill.new.self in
    let id = c.fill.new.buf in
    let d = c.in_ok-fill.ensures in
    let r = c.build.new.self in
    let b = c.in_ok-build.ensures in
    let t = c.put_new.new.parts in
    let w = c.in_err-put_new.ensures in
    let e = c.in_err-put_new.field-0.0 in
    handed_on c.from_residual-in_err-put_new.result e (λ (x : Error). NotMade E s old t (kind_of x)) c.from_residual-in_err-put_new.ensures.1
    (refused_write E s fresh max old of least most tree made p size f.size.0 f.size.1 f.quiet f.kept f.moved f.strays q id c.fill.auto.buf d.taken d.bytes d.durable d.quiet d.moved d.strays r c.build.new.tree b.shapes b.quiet b.kept b.moved (b.one refl) b.strays [] t (kind_of e) w.failed w.left w.moved w.began w.strays)

pub of-requires-clause-sound : goal.of-requires-clause-sound
of-requires-clause-sound g c =
    let C = cipher_of g.A.Algorithm.variant in
    let least : 16 ≤ c.args.fresh.now.chunk_size = omega (arith, c.if-fresh-lt16.false) in
    record {
      version_least = (version_range _ c.number.ensures.version).0;
      version_most = (version_range _ c.number.ensures.version).1;
      algorithm = c.algorithm_number.ensures;
      least = least;
      most = omega (arith, c.if-fresh-gt1048576.false);
      below = small_layout _ least;
    }

pub of-requires-clause-room : goal.of-requires-clause-room
of-requires-clause-room g c = λ t is. omega (arith, count_none c.args.fresh.now.chunk_size (omega (arith, c.if-fresh-lt16.false)))

pub returns-clause-made : goal.returns-clause-made
returns-clause-made g c = λ s of.
    let C = cipher_of g.A.Algorithm.variant in
    let E = g.H.MerkleHasher.hashing in
    let key = g.A.Algorithm.key_list c.args.key.now in
    let old = c.args.parts.now in
    let fresh = c.args.fresh.now in
    let max = c.args.max_chunks in
    let tree = c.in_ok-tree.tree in
    let least : 16 ≤ fresh.chunk_size = omega (arith, c.if-fresh-lt16.false) in
    let most : fresh.chunk_size ≤ 1048576 = omega (arith, c.if-fresh-gt1048576.false) in
    let made : TreeMade E old.setting (option_map (λ (_ : List ℕ). max) old.setting) 0 tree =
    made_for E max (option_map g.H.MerkleHasher.setting c.parts.inside.hasher) old.setting 0 0 tree (ap (λ o. o.setting) c.parts.view_is) refl c.in_ok-tree.ensures.made in
    let p = c.freed.new.parts in
    let f = c.in_ok-size.ensures in
    let size = c.in_ok-size.size in
    let q = c.fill.new.self in
    let id = c.fill.new.buf in
    let d = c.in_ok-fill.ensures in
    let r = c.build.new.self in
    let b = c.in_ok-build.ensures in
    let t = c.put_new.new.parts in
    let w = c.in_ok-put_new.ensures in
    let h = c.of.result.header in
    let o = c.of.ensures in
    subst (λ (k : Handle). Made C E key s old k)
    (λ i. handle_of t (g.A.Algorithm.key_list (sym o.key i)) h (sym o.tree i) (sym o.unmarked i))
    (made_file E s fresh max old of least most tree made p size f.size.0 f.size.1 f.quiet f.kept f.moved f.strays q id c.fill.auto.buf d.taken d.bytes d.durable d.quiet d.moved d.strays r c.build.new.tree b.shapes b.quiet b.kept b.moved (b.one refl) b.strays
    C (lawful g.A.Algorithm.variant) key h (ap (λ (h : Header). h.version) o.header ∙ c.number.ensures.is)
    (subst IsVersion (sym (ap (λ (h : Header). h.version) o.header)) c.number.ensures.version)
    (ap (λ (h : Header). h.algorithm) o.header ∙ c.algorithm_number.ensures) (ap (λ (h : Header). h.chunk_size) o.header) (ap (λ (h : Header). h.file_size) o.header)
    (ap (λ (h : Header). h.id) o.header) t
    (λ x tells len. w.put x tells len ∙ ap (λ (h : Header). Some (sealed_header C key h)) (sym o.header)) w.quiet w.left w.moved w.strays c.tree_laws.ensures b.built)
