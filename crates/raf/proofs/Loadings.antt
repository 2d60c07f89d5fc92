-- The record of a chunk that was read, or could not be read.
use Rattle.std.proofs.Common.{◌≡◌, Bool, true, false, ℕ, ◌+◌, ◌≤◌, List, length, take, drop, Option, Some, None, Result, Ok, Err, sym, ◌∙◌, ap, subst, arith}
use Rattle.raf_format.specs.Cipher.{Cipher}
use Rattle.std.specs.Result.{IsErrAnd, OnOk}
use Rattle.raf_format.specs.File.{chunk_at, chunk_len, shape_of, layout_len, record_start, record_len}
use Rattle.raf.specs.Loaded.{Loads}
use Rattle.raf.specs.Outside.{Outside, Kept, Caused, Moved}
use Rattle.raf_io.specs.Kinds.{kind_of}
use Rattle.raf_format.specs.declared.header.Header.{Header}
use Rattle.raf_io.specs.declared.errors.Error.{Error}
use Rattle.raf_io.specs.declared.errors.Error.TheVariants as error
use Rattle.raf_io.specs.declared.errors.ErrorKind.TheVariants.{Io, AuthenticationFailed}
use Rattle.raf_format.specs.Cipher.{IsLawful, IsTagLen}
use Rattle.raf_format.specs.Version.{tag_len_of}
use Rattle.raf_format.specs.File.{StandsFor, record_at, unsealed}
use Rattle.raf_format.specs.Record.{middle}
use Rattle.std.specs.Bool.{OnTrue, OnFalse}
use Rattle.raf_format.proofs.Versions.{is_tag_len}
use Rattle.raf_format.proofs.Opened.{one_answer}
use Rattle.raf_io.specs.Storage.{ReadsFrom}
use Rattle.raf.specs.Outside.{Quiet}
use Rattle.raf.proofs.Moves.{unopened_io}

-- a read that failed
pub loads_failed : (C : Cipher) (K : List ℕ) (h : Header) (index : ℕ) (old new : Outside) (m : List ℕ) (r : Result (Unit {0}) Error) (e : Error)
    → IsErrAnd r (λ x. x ≡ e) → (kind_of e ≡ Io) × Caused Io old new → Kept old new
    → Moved old new (record_start (shape_of C h) index + record_len (shape_of C h) h.file_size index) (record_len (shape_of C h) h.file_size index) 0 0 0
    → ((b : List ℕ) → old.bytes ≡ Some b → layout_len (shape_of C h) h.file_size ≤ length b → new.strays ≡ old.strays)
    → Loads C K h index old new m r
loads_failed C K h index old new m (Ok _) e is why kept moved strays = absurd is
loads_failed C K h index old new m (Err x) e is why kept moved strays = record {
  loaded = λ b tells. tt;
  missing = λ b tells auth. absurd (other (sym why.0 ∙ ap kind_of (sym is) ∙ auth));
  kinds = unopened_io (kind_of x) old new (ap kind_of is ∙ why.0, why.1);
  quiet = tt;
  kept = kept;
  moved = moved;
  strays = strays;
}
  where
    other : Io ≡ AuthenticationFailed → ⊥
    other same = cc

-- a record that was read and looked at
module _ (C : Cipher) (lawful : IsLawful C) (K : List ℕ) (h : Header) (index : ℕ) (old new : Outside) (got m : List ℕ) (t : ℕ)
    (tag : t ≡ tag_len_of h.version) (long : length got ≡ record_len (shape_of C h) h.file_size index)
    (reads : ReadsFrom old.bytes (record_start (shape_of C h) index) got) (quiet : Quiet old new) (kept : Kept old new)
    (moved : Moved old new (record_start (shape_of C h) index + record_len (shape_of C h) h.file_size index) (record_len (shape_of C h) h.file_size index) 0 0 0)
    (strays : (b : List ℕ) → old.bytes ≡ Some b → layout_len (shape_of C h) h.file_size ≤ length b → new.strays ≡ old.strays) where
  same : (b : List ℕ) → old.bytes ≡ Some b → chunk_at C K h b index ≡ unsealed C t K h.id index got
  same b tells =
      let there : ReadsFrom (Some b) (record_start (shape_of C h) index) got = subst (λ (o : Option (List ℕ)). ReadsFrom o (record_start (shape_of C h) index) got) tells reads in
      ap (λ (n : ℕ). unsealed C n K h.id index (record_at (shape_of C h) h.file_size index b)) (sym tag)
      ∙ ap (λ (r : List ℕ). unsealed C t K h.id index r) (sym (there.1 ∙ ap (λ (n : ℕ). take n (drop (record_start (shape_of C h) index) b)) long))

  answer : (o : Option (List ℕ)) → StandsFor C t K h.id index got o → unsealed C t K h.id index got ≡ o
  answer o stands = one_answer C lawful t (subst IsTagLen (sym tag) (is_tag_len h.version)) K h.id got index o stands

  pub loads_found : (r : Bool) → r ≡ true → OnTrue r (StandsFor C t K h.id index got (Some m)) → Loads C K h index old new m (Ok tt)
  loads_found r is opened = let stands = subst (λ (r : Bool). OnTrue r (StandsFor C t K h.id index got (Some m))) is opened in record {
    loaded = λ b tells. same b tells ∙ answer (Some m) stands;
    missing = λ b tells. tt;
    kinds = tt;
    quiet = quiet;
    kept = kept;
    moved = moved;
    strays = strays;
  }

  pub loads_missing : (r : Bool) → r ≡ false → OnFalse r (StandsFor C t K h.id index got None) → Loads C K h index old new m (Err error.AuthenticationFailed)
  loads_missing r is closed = let stands = subst (λ (r : Bool). OnFalse r (StandsFor C t K h.id index got None)) is closed in record {
    loaded = λ b tells. tt;
    missing = λ b tells auth. same b tells ∙ answer None stands;
    kinds = quiet;
    quiet = tt;
    kept = kept;
    moved = moved;
    strays = strays;
  }

-- the chunk that stands in a record's place
pub middle_chunk : (C : Cipher) (h : Header) (index t : ℕ) (after : List ℕ) → t ≡ tag_len_of h.version → length after ≡ record_len (shape_of C h) h.file_size index
    → middle C t after ≡ take (chunk_len h.chunk_size h.file_size index) (drop C.nonce_len after)
middle_chunk C h index t after tag long = ap (λ (n : ℕ). take n (drop C.nonce_len after)) (omega (arith, long, tag))

-- a refusal that is handed on
pub loads_handed : (C : Cipher) (K : List ℕ) (h : Header) (index : ℕ) (old new : Outside) (m : List ℕ) (P : Type 0) (r : Result (Unit {0}) Error) (e : Error)
    → IsErrAnd r (λ x. x ≡ e) → Loads C K h index old new m (Err e) → Loads C K h index old new m r × OnOk r P
loads_handed C K h index old new m P (Ok _) e is l = absurd is
loads_handed C K h index old new m P (Err x) e is l = (subst (λ (x : Error). Loads C K h index old new m (Err x)) (sym is) l, tt)
