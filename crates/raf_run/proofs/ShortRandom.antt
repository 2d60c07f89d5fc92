-- The random source fails exactly where its told bytes run out.
use Rattle.std.proofs.Common.{◌≡◌, ℕ, ◌-◌, ◌<◌, ◌≤◌, true, List, ◌∷◌, ◌++◌, length, drop, Option, Some, None, Result, Ok, Err, refl, sym, ap, ◌∙◌, arith, subst, inl, inr}
use Rattle.std.specs.Prelude.{◌⊎◌, slice_get}
use Rattle.std.proofs.lemmas.List.{length-append, length-drop}
use Rattle.raf_format.specs.Version.{version_number}
use Rattle.raf_format.specs.File.{File}
use Rattle.raf_io.specs.Kinds.{kind_of}
use Rattle.raf_io.specs.Source.{Takes, IsShort}
use Rattle.raf_io.specs.declared.errors.Error.{Error}
use Rattle.raf_io.specs.declared.errors.ErrorKind.{ErrorKind}
use Rattle.raf_io.specs.declared.errors.ErrorKind.TheVariants.{Io, InvalidArgument, AuthenticationFailed, AlreadyExists, NotFound, Overflow, MerkleNotEnabled, CorruptedChunk, Rng, Hash, Broken, OutOfMemory}
use Rattle.raf.specs.Image.{asked_in, asked_by}
use Rattle.raf.specs.Apply.{file_after}
use Rattle.raf.specs.Outside.{Outside, Caused}
use Rattle.raf.specs.Opening.{Settings}
use Rattle.raf.specs.Session.{Whole, Faulted, Answered, Refusal}
use Rattle.raf.specs.Session as session
use Rattle.raf.specs.declared.command.Command.{Command}
use Rattle.raf.specs.declared.command.Reply.{Reply}
use Rattle.raf.specs.declared.command.Reply.TheVariants.{Refused}
use Rattle.raf_script.specs.declared.script.Start.{Start}
use Rattle.raf_script.specs.declared.script.Start.TheVariants.{Storage, Create}
use Rattle.raf_run.specs.Disk.{Disk, over, disk_in}
use Rattle.raf_run.specs.Ends.{Ground, BuilderOf, ServedAnew, RefusedAnew, EndsOn, ground_of, told_by}
use Rattle.raf_run.specs.Answers.{last_status, is_io, is_io_kind}
use Rattle.raf_run.specs.Laws.{CanCreate, IsExcused, FaultsRng, RunsShortOn, RunsShortBy, RunsShort, new_header}
use Rattle.raf_run.proofs.OneText.{taken_so_many, last_of, new_file}
use Rattle.raf_run.proofs.Completeness.{all_quiet, quiet_at, asked_split, no_hash, not_made, refused_on, is_excuse}

taken_fits : (random got : List ℕ) (left : Option (List ℕ)) → Takes (Some random) got left → length got ≤ length random
taken_fits random got None t = absurd t
taken_fits random got (Some rest) t = omega (arith, ap length t, length-append got rest)

-- the last reply tells the kind
last_kind : (a b : ErrorKind) (x : Option Reply) → x ≡ Some (Refused a) → x ≡ Some (Refused b) → a ≡ b
last_kind a b x p q = let same : ◌≡◌ {A = Option Reply} (Some (Refused a)) (Some (Refused b)) = sym p ∙ q in (cc)

module _ (G : session.Ground) (F : File) (b : List ℕ) (cs : List Command) (random : List ℕ) (old new : Outside) (rs : List Reply) (left : old.left ≡ Some random) where
  -- without a fault there were enough
  whole_only : Whole G F b cs old new rs → FaultsRng rs → ⊥
  whole_only w faults =
      let quiet : last_status (slice_get rs (length rs - 1)) ≡ 0 = quiet_at rs (length rs - 1) (all_quiet G F cs rs w.course.played) in
      let loud : last_status (slice_get rs (length rs - 1)) ≡ 4 = ap last_status faults in
      omega (arith, quiet, loud)

  whole_enough : Whole G F b cs old new rs → length random < asked_in G.limit F cs → ⊥
  whole_enough w few =
      let fits = taken_fits random w.nonces new.left (subst (λ (l : Option (List ℕ)). Takes l w.nonces new.left) left w.left) in
      omega (arith, fits, few, w.course.drawn)

  module _ (f : Faulted G F b cs old new rs) (exact : old.exact ≡ true) (hash : new.hash_faults ≡ 0) where
    last : slice_get rs (length rs - 1) ≡ Some (Refused f.kind)
    last = ap (λ (l : List Reply). slice_get l (length l - 1)) f.last ∙ last_of f.answered (Refused f.kind)

    short_of : (bytes : List ℕ) (middle : Option (List ℕ)) (n : ℕ) → middle ≡ Some bytes → IsShort middle n → length bytes < n
    short_of bytes middle n e short = subst (λ (m : Option (List ℕ)). IsShort m n) e short

    faulted_only : FaultsRng rs → length random < asked_in G.limit F cs
    faulted_only faults =
        let is : f.kind ≡ Rng = last_kind f.kind Rng (slice_get rs (length rs - 1)) last faults in
        let drawn = taken_so_many (asked_in G.limit F f.done) random f.nonces f.middle f.course.drawn (subst (λ (l : Option (List ℕ)). Takes l f.nonces f.middle) left f.taken) in
        let few = short_of (drop (asked_in G.limit F f.done) random) f.middle (asked_by G.limit (file_after G.limit F f.done) f.command) drawn.1 (f.short is exact) in
        let all : length random < asked_in G.limit F (f.done ++ f.command ∷ f.rest) =
        omega (arith, few, asked_split G.limit F f.done f.rest f.command, length-drop (asked_in G.limit F f.done) random) in
        subst (λ (all : List Command). length random < asked_in G.limit F all) (sym f.split) all

    kind_there : (kind : ErrorKind) → f.kind ≡ kind → (kind ≡ Rng) ⊎ ((kind ≡ Io) × Caused Io old new)
    kind_there Io is = inr (refl, subst (λ (k : ErrorKind). Caused k old new) is f.cause)
    kind_there Rng is = inl refl
    kind_there Hash is = let caused : Caused Hash old new = subst (λ (k : ErrorKind). Caused k old new) is f.cause in absurd (no_hash old.hash_faults new.hash_faults hash caused.0)
    kind_there (InvalidArgument why) is = absurd (subst (λ (k : ErrorKind). Caused k old new) is f.cause)
    kind_there AuthenticationFailed is = absurd (subst (λ (k : ErrorKind). Caused k old new) is f.cause)
    kind_there AlreadyExists is = absurd (subst (λ (k : ErrorKind). Caused k old new) is f.cause)
    kind_there NotFound is = absurd (subst (λ (k : ErrorKind). Caused k old new) is f.cause)
    kind_there Overflow is = absurd (subst (λ (k : ErrorKind). Caused k old new) is f.cause)
    kind_there MerkleNotEnabled is = absurd (subst (λ (k : ErrorKind). Caused k old new) is f.cause)
    kind_there (CorruptedChunk index) is = absurd (subst (λ (k : ErrorKind). Caused k old new) is f.cause)
    kind_there Broken is = absurd (subst (λ (k : ErrorKind). Caused k old new) is f.cause)
    kind_there OutOfMemory is = absurd (subst (λ (k : ErrorKind). Caused k old new) is f.cause)

    faulted_there : (disk back : Disk) → disk.faults ≡ old.io_faults → back ≡ disk_in new → FaultsRng rs ⊎ IsExcused disk (Ok rs) back
    faulted_there disk back was is = go (kind_there f.kind refl)
      where
        go : (f.kind ≡ Rng) ⊎ ((f.kind ≡ Io) × Caused Io old new) → FaultsRng rs ⊎ IsExcused disk (Ok rs) back
        go (inl rng) = inl (last ∙ ap (λ (k : ErrorKind). Some (Refused k)) rng)
        go (inr io) = inr (inr (ap is_io last ∙ ap is_io_kind io.0, rw (was, ap (λ (d : Disk). d.faults) is) io.1.0))

module _ (G : Ground) (b : List ℕ) (cs : List Command) (random : List ℕ) (s : Settings) (disk back : Disk) (after : Outside) (setting : s.outside.setting ≡ G.setting) (most : s.most ≡ G.most)
    (left : s.outside.left ≡ Some random) (exact : s.outside.exact ≡ true) (hash : after.hash_faults ≡ 0) (is : back ≡ disk_in after) where
  answered_short : (rs : List Reply) → Answered (record { cipher = G.cipher; answers = G.answers; setting = s.outside.setting; limit = s.most; key = G.key }) b cs (over disk s.outside) after rs
      → RunsShortOn G b cs random disk rs back
  answered_short rs answered = by_run a.run
    where
      K : session.Ground
      K = record { cipher = G.cipher; answers = G.answers; setting = G.setting; limit = G.most; key = G.key }

      a : Answered (record { cipher = G.cipher; answers = G.answers; setting = G.setting; limit = G.most; key = G.key }) b cs (over disk s.outside) after rs
      a = rw (← most, ← setting) answered

      by_run : Whole K a.file b cs (over disk s.outside) after rs ⊎ Faulted K a.file b cs (over disk s.outside) after rs → RunsShortOn G b cs random disk rs back
      by_run (inl w) = record {
        file = a.file;
        opens = a.opens;
        only = λ faults. absurd (whole_only K a.file b cs random (over disk s.outside) after rs left w faults);
        there = λ few. absurd (whole_enough K a.file b cs random (over disk s.outside) after rs left w few);
      }
      by_run (inr f) = record {
        file = a.file;
        opens = a.opens;
        only = λ faults. faulted_only K a.file b cs random (over disk s.outside) after rs left f exact hash faults;
        there = λ few. faulted_there K a.file b cs random (over disk s.outside) after rs left f exact hash disk back refl is;
      }

-- an opening isn't refused for random bytes
no_rng : (G : Ground) (s : Settings) (cs : List Command) (old new : Outside) (kind : ErrorKind) → Refusal G.cipher G.answers G.key s cs old new kind → kind ≡ Rng → ⊥
no_rng G s cs old new kind (inl p) is = let odd : Rng ≡ Overflow = sym is ∙ p.1 in (cc)
no_rng G s cs old new Rng (inr p) is = p.1.numbers.1
no_rng G s cs old new Io (inr p) is = (cc)
no_rng G s cs old new (InvalidArgument r) (inr p) is = (cc)
no_rng G s cs old new AuthenticationFailed (inr p) is = (cc)
no_rng G s cs old new AlreadyExists (inr p) is = (cc)
no_rng G s cs old new NotFound (inr p) is = (cc)
no_rng G s cs old new Overflow (inr p) is = (cc)
no_rng G s cs old new MerkleNotEnabled (inr p) is = (cc)
no_rng G s cs old new (CorruptedChunk index) (inr p) is = (cc)
no_rng G s cs old new Hash (inr p) is = (cc)
no_rng G s cs old new Broken (inr p) is = (cc)
no_rng G s cs old new OutOfMemory (inr p) is = (cc)

since_on : (disk : Disk) (file : Outside) (rs : List Reply) (back : Disk) → file.io_faults ≡ disk.faults → IsExcused (disk_in file) (Ok rs) back → IsExcused disk (Ok rs) back
since_on disk file rs back same (inl seven) = inl seven
since_on disk file rs back same (inr io) = inr (io.0, rw (← same) io.1)

short_since : (G : Ground) (b : List ℕ) (cs : List Command) (random : List ℕ) (disk : Disk) (file : Outside) (rs : List Reply) (back : Disk) → file.io_faults ≡ disk.faults
    → RunsShortOn G b cs random (disk_in file) rs back → RunsShortOn G b cs random disk rs back
short_since G b cs random disk file rs back same h = record {
  file = h.file;
  opens = h.opens;
  only = h.only;
  there = λ few. go (h.there few);
}
  where
    go : FaultsRng rs ⊎ IsExcused (disk_in file) (Ok rs) back → FaultsRng rs ⊎ IsExcused disk (Ok rs) back
    go (inl rng) = inl rng
    go (inr excuse) = inr (since_on disk file rs back same excuse)

module _ (G : Ground) (size : ℕ) (random : List ℕ) (s : Settings) (disk back : Disk) (told : s.outside.left ≡ Some random) (builder : BuilderOf G s) (is_size : s.chunk_size ≡ size) where
  refused_short : (e : Error) → RefusedAnew G s disk (Err e) back
      → (kind_of e ≡ Rng → CanCreate G size × (length random < 32)) × (CanCreate G size → length random < 32 → (kind_of e ≡ Rng) ⊎ IsExcused disk (Err e) back)
  refused_short e p = (only, there)
    where
      same : e ≡ p.error
      same = let is : ◌≡◌ {A = Result (List Reply) Error} (Err e) (Err p.error) = p.refusal in (cc)

      only : kind_of e ≡ Rng → CanCreate G size × (length random < 32)
      only rng =
          let kind : kind_of p.error ≡ Rng = ap kind_of (sym same) ∙ rng in
          let why = rw kind at p.refused.why in
          let few : length random < 32 = subst (λ (l : Option (List ℕ)). IsShort l 32) told (why.2 builder.exact) in
          (record { chunk_size = rw (← is_size) why.0.chunk_size; room = rw (← builder.setting, ← builder.most) why.0.room }, few)

      there : CanCreate G size → length random < 32 → (kind_of e ≡ Rng) ⊎ IsExcused disk (Err e) back
      there can few = go (not_made G size random s disk p.after (kind_of p.error) can builder is_size told p.sure.hash p.refused)
        where
          go : ((kind_of p.error ≡ Rng) × (length random < 32)) ⊎ (is_excuse (kind_of p.error) ≡ true) → (kind_of e ≡ Rng) ⊎ IsExcused disk (Err e) back
          go (inl short) = inl (ap kind_of same ∙ short.0)
          go (inr may) = inr (refused_on disk back s.outside p.after (Err e) p.error p.refusal p.handed p.refused.fault may)

short_by : (G : Ground) (start : Start) (cs : List Command) (b random : List ℕ) (disk : Disk) (outcome : Result (List Reply) Error) (back : Disk) → G.random ≡ Some random → disk.bytes ≡ Some b
    → EndsOn G start cs disk outcome back → RunsShortBy G start cs b random disk outcome back
short_by G (Storage x) cs b random disk (Ok rs) back told bytes p =
    answered_short G b cs random p.0 disk back p.2.after p.1.setting p.1.most (p.1.left ∙ told) p.1.exact p.2.sure.hash p.2.handed rs (p.2.meets.answered b bytes)
short_by G (Storage x) cs b random disk (Err e) back told bytes p = no_rng G p.0 cs (over disk p.0.outside) p.2.after (kind_of e) p.2.meets.refused
short_by G (Create size v) cs b random disk (Ok rs) back told bytes p = go p.4
  where
    go : ServedAnew G p.0 cs disk (Ok rs) back ⊎ RefusedAnew G p.0 disk (Ok rs) back → (32 ≤ length random) × RunsShortOn G (new_header G size (version_number v) random) cs (drop 32 random) disk rs back
    go (inl q) =
        let file = new_file G size (version_number v) random b p.0 disk q.file p.2 p.3 (p.1.left ∙ told) bytes q.made in
        let exact : q.opener.outside.exact ≡ true = q.exact ∙ q.made.moved.exact ∙ p.1.exact in (
          file.id,
          short_since G (new_header G size (version_number v) random) cs (drop 32 random) disk q.file.outside rs back q.made.quiet.io
              (answered_short G (new_header G size (version_number v) random) cs (drop 32 random) q.opener (disk_in q.file.outside) back q.served.after q.hasher.setting q.hasher.most (q.left ∙ file.left) exact q.served.sure.hash q.served.handed rs
              (q.served.meets.answered (new_header G size (version_number v) random) file.bytes)),
        )
    go (inr q) = let odd : ◌≡◌ {A = Result (List Reply) Error} (Ok rs) (Err q.error) = q.refusal in (cc)
short_by G (Create size v) cs b random disk (Err e) back told bytes p = go p.4
  where
    go : ServedAnew G p.0 cs disk (Err e) back ⊎ RefusedAnew G p.0 disk (Err e) back
        → (kind_of e ≡ Rng → CanCreate G size × (length random < 32)) × (CanCreate G size → length random < 32 → (kind_of e ≡ Rng) ⊎ IsExcused disk (Err e) back)
    go (inl q) =
        let file = new_file G size (version_number v) random b p.0 disk q.file p.2 p.3 (p.1.left ∙ told) bytes q.made in
        (λ rng. absurd (no_rng G q.opener cs (over (disk_in q.file.outside) q.opener.outside) q.served.after (kind_of e) q.served.meets.refused rng), λ can few. absurd (omega (arith, file.id, few)))
    go (inr q) = refused_short G size random p.0 disk back (p.1.left ∙ told) p.1 p.2 e q

pub runs_short : RunsShort
runs_short s random b disk back outcome told bytes p = short_by (ground_of s) s.start s.commands b random disk outcome back (ap told_by told) bytes p
