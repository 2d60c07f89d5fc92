use Rattle.std.proofs.Common.{◌≡◌, ◌≤◌, ◌<◌, ◌/◌, ◌+◌, ◌-◌, min, ℕ, List, take, get_or, refl, sym, subst, length, arith, length-take}
use Rattle.std.specs.Prelude.{◌⊎◌}
use Rattle.raf_format.specs.Cipher.{cipher_of}
use Rattle.raf_format.specs.File.{File}
use Rattle.raf.specs.Read.{ReadSoFar, Unread, IsByteOf, chunks_of}
use Rattle.raf_format.proofs.Ciphers.{lawful}
use Rattle.raf.proofs.OldOrOpenedBytes.{old_or_opened}
use Rattle.raf.proofs.ReadSteps.{went_nothing, went_read, went_unread}
use Rattle.raf.proofs.reading.read_bytes.Goals.{then-offset-size-via-then-offset-size, then-offset-size-via-else-offset-size+then-asked-eq0}
use Rattle.raf.proofs.reading.read_bytes.Goals as goal

pub returns-then-offset-size-clause-went : goal.returns-then-offset-size-clause-went
returns-then-offset-size-clause-went g c =
    let file = c.args.file.now in
    let none : min (c.args.offset + length c.args.buf.now) file.header.file_size ≤ c.args.offset = elim c.then-offset-size.branch [
      | then-offset-size-via-then-offset-size w ↦ omega (arith, w.if-offset-size.true)
      | then-offset-size-via-else-offset-size+then-asked-eq0 w ↦ omega (arith, w.if-asked-eq0.true)
    ] in
    went_nothing (cipher_of g.A.Algorithm.variant) (lawful g.A.Algorithm.variant) g.H.MerkleHasher.hashing (g.A.Algorithm.key_list file.key) file.header file.sound file.tree file.broken c.requires
    c.args.offset (length c.args.buf.now) c.args.parts.now none

pub returns-in-Ok-clause-went : goal.returns-in-Ok-clause-went
returns-in-Ok-clause-went g c =
    let C = cipher_of g.A.Algorithm.variant in
    let file = c.args.file.now in
    let h = file.header in
    let offset = c.args.offset in
    let buf = c.args.buf.now in
    let now = c.read_front.new.buf in
    let n = c.min-n.result in
    let n_is : n ≡ min (offset + length buf) h.file_size - offset = omega (arith, c.min-n.ensures, c.if-offset-size.false) in
    let had : 0 < n = omega (arith, n_is, c.if-offset-size.false, c.if-asked-eq0.false) in
    let first = offset / h.chunk_size in
    let stop = (offset + n - 1) / h.chunk_size + 1 in
    went_read C (lawful g.A.Algorithm.variant) g.H.MerkleHasher.hashing (g.A.Algorithm.key_list file.key) h file.sound file.tree file.broken c.requires
    offset (length buf) n first stop n_is had refl refl c.args.parts.now c.read_front.new.parts (take n buf) (take n now)
    (omega (arith, length-take n buf, n_is)) (omega (arith, length-take n now, n_is, c.read_front.auto.buf))
    (subst (λ (k : List ℕ). ReadSoFar C k h offset first stop c.args.parts.now c.read_front.new.parts (take n buf) (take n now)) file.derived c.in-Ok.ensures.read)

pub returns-in-Err-clause-went : goal.returns-in-Err-clause-went
returns-in-Err-clause-went g c =
    let C = cipher_of g.A.Algorithm.variant in
    let file = c.args.file.now in
    let h = file.header in
    let offset = c.args.offset in
    let buf = c.args.buf.now in
    let now = c.read_front.new.buf in
    let n = c.min-n.result in
    let n_is : n ≡ min (offset + length buf) h.file_size - offset = omega (arith, c.min-n.ensures, c.if-offset-size.false) in
    let had : 0 < n = omega (arith, n_is, c.if-offset-size.false, c.if-asked-eq0.false) in
    let first = offset / h.chunk_size in
    let stop = (offset + n - 1) / h.chunk_size + 1 in
    went_unread C (lawful g.A.Algorithm.variant) g.H.MerkleHasher.hashing (g.A.Algorithm.key_list file.key) h file.sound file.tree file.broken c.requires
    offset (length buf) n first stop n_is had refl refl c.args.parts.now c.read_front.new.parts (take n buf) (take n now) c.in-Err.e
    (subst (λ (k : List ℕ). Unread C k h offset first stop c.args.parts.now c.read_front.new.parts (take n buf) (take n now) c.in-Err.e) file.derived c.in-Err.ensures.refused)

pub returns-in-Err-clause-refused : goal.returns-in-Err-clause-refused
returns-in-Err-clause-refused g c = λ F held k lt.
    let C = cipher_of g.A.Algorithm.variant in
    let file = c.args.file.now in
    let h = file.header in
    let offset = c.args.offset in
    let buf = c.args.buf.now in
    let now = c.read_front.new.buf in
    let n = c.min-n.result in
    let first = offset / h.chunk_size in
    let stop = (offset + n - 1) / h.chunk_size + 1 in
    let unread : Unread C (C.chunk_key (g.A.Algorithm.key_list file.key) h.id) h offset first stop c.args.parts.now c.read_front.new.parts (take n buf) (take n now) c.in-Err.e =
    subst (λ (k : List ℕ). Unread C k h offset first stop c.args.parts.now c.read_front.new.parts (take n buf) (take n now) c.in-Err.e) file.derived c.in-Err.ensures.refused in
    subst (λ (G : File). (get_or now k 0 ≡ get_or buf k 0) ⊎ IsByteOf G.shape.chunk_size G.chunks (offset + k) (get_or now k 0)) (sym held.file)
    (old_or_opened h.chunk_size (chunks_of C (C.chunk_key (g.A.Algorithm.key_list file.key) h.id) h held.bytes) offset first unread.index n buf now
    (unread.filled held.bytes held.tells held.is_file.length_fits) c.read_front.ensures.rest (omega (arith, c.min-n.ensures)) k lt)
