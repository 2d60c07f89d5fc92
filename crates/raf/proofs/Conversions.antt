-- Pieces that are moved into an empty file, one after the other.
use Rattle.std.proofs.Common.{◌≡◌, inl, inr, ℕ, ◌+◌, ◌-◌, ◌*◌, ◌/◌, ◌^◌, ◌<◌, ◌≤◌, min, max, Bool, true, false, cond, ◌&&◌, List, [], ◌∷◌, ◌++◌, length, map, get_or, Option, Some, None, Ok, Err, refl, sym, ◌∙◌, ap, subst, arith, length-append}
use Rattle.std.specs.Prelude.{◌⊎◌, nat_lt}
use Rattle.std.specs.List.{concat}
use Rattle.std.proofs.Math.Nat.{div-mul-le_self, mul-le-mul_left, div-zero}
use Rattle.std.proofs.lemmas.Nat.{le-div}
use Rattle.std.proofs.lemmas.Bool.{false≢true, ltb-true, lt-ltb, cases_lt}
use Rattle.std.proofs.lemmas.Bool.Decides.{nat_tests}
use Rattle.std.proofs.lemmas.List.{append-nil, get_or_append_left, get_or-append_right}
use Rattle.std.proofs.lemmas.List.Folds.{concat-append}
use Rattle.raf_tree.specs.Hashing.{Hashing}
use Rattle.raf_format.specs.Cipher.{Cipher, IsLawful}
use Rattle.raf_format.specs.File.{File, Shape, tag_len, chunk_count, layout_len, file_layout, shape_of}
use Rattle.raf_format.specs.declared.header.Header.{Header}
use Rattle.raf.specs.Change.{write_change}
use Rattle.raf.specs.Concern.{can_have, within, valid, needed, none_missing, size_after}
use Rattle.raf.specs.Due.{Due, Answers, is_fault}
use Rattle.raf.specs.Due.Due.{Exactly}
use Rattle.raf.specs.Apply.{apply, after, answer, changed, cause_of, file_after}
use Rattle.raf.specs.Image.{traced, bytes_after, asked_by, changes_by, traffic_by, calls_by}
use Rattle.raf.specs.Outside.{Caused, Moved}
use Rattle.raf.specs.Handle.{Handle, Holds, WithTree, OfTree, Grown, KeptAnswer, limit_of, outline}
use Rattle.raf.specs.Read.{IsByteOf}
use Rattle.raf.specs.Stepped.{Stepped, Went, Answered, Bounded, Shaped, HasForm, with_size}
use Rattle.raf.specs.Ran.{NumbersSoFar}
use Rattle.raf.specs.Converted.{Begins, HasBytes, ArePieces, writes, reads_traffic, OnlyRead, Filled, Moves, Unread, Unwritten, Stopped, Converted}
use Rattle.raf.specs.Converting.{RefusedBy, Passed}
use Rattle.raf.specs.declared.converting.Side.{Side}
use Rattle.raf.specs.declared.converting.Side.TheVariants as side
use Rattle.raf.specs.declared.converting.ConvertError.{ConvertError}
use Rattle.raf_io.specs.Kinds.{kind_of}
use Rattle.raf.specs.declared.command.Command.{Command}
use Rattle.raf.specs.declared.command.Command.TheVariants as command
use Rattle.raf.specs.declared.command.Reply.{Reply}
use Rattle.raf.specs.declared.command.Reply.TheVariants.{Bytes, Wrote, Refused}
use Rattle.raf_io.specs.declared.errors.ErrorKind.{ErrorKind}
use Rattle.raf_io.specs.declared.errors.ErrorKind.TheVariants as kinds
use Rattle.raf.proofs.Between.{Short}
use Rattle.raf.proofs.Chunks.{chunks_short, length-chunks}
use Rattle.raf.proofs.Numbers.{numbers_none, numbers_more}
use Rattle.raf.proofs.Moves.{moved_same, moved_less, moved_then, quiet_same, quiet_then, takes_none, takes_then}
use Rattle.raf.proofs.Runs.{after-push, asked-push, changes-push, calls-push, traffic-push, longest-push, longest_last, traced-push}
use Rattle.raf.proofs.Appended.{has_more, all_there, none_missing_of}
use Rattle.raf.proofs.OnlyReads
use Rattle.raf.proofs.OnlyReads.{only_same, only_then, still_held, only_read, read_len, read_bytes, read_cause, read_missing}

-- ---- pieces

pub concat-push : (ps : List (List ℕ)) (p : List ℕ) → concat (ps ++ p ∷ []) ≡ concat ps ++ p
concat-push ps p = concat-append ps (p ∷ []) ∙ ap (λ (l : List ℕ). concat ps ++ l) (append-nil p)

writes-push : (o : ℕ) (ps : List (List ℕ)) (p : List ℕ) → writes o (ps ++ p ∷ []) ≡ writes o ps ++ command.Write (o + length (concat ps)) p ∷ []
writes-push o [] p = let e : o ≡ o + 0 = omega arith in ap (λ (n : ℕ). command.Write n p ∷ []) e
writes-push o (q ∷ ps) p =
    let e : o + length q + length (concat ps) ≡ o + length (q ++ concat ps) = omega (arith, length-append q (concat ps)) in
    ap (λ (l : List Command). command.Write o q ∷ l)
    (writes-push (o + length q) ps p ∙ ap (λ (n : ℕ). writes (o + length q) ps ++ command.Write n p ∷ []) e)

pub total_le : (room left : ℕ) (ps : List (List ℕ)) → ArePieces room left ps → length (concat ps) ≤ left
total_le room left [] are = omega arith
total_le room left (q ∷ ps) (lt, len, are) = omega (arith, len, total_le room (left - room) ps are, length-append q (concat ps))

pieces-push : (room left : ℕ) (ps : List (List ℕ)) (p : List ℕ) → ArePieces room left ps → length (concat ps) < left → length p ≡ min room (left - length (concat ps)) → ArePieces room left (ps ++ p ∷ [])
pieces-push room left [] p are more long = (more, omega (arith, long), tt)
pieces-push room left (q ∷ ps) p (lt, len, are) more long =
    let all : length (q ++ concat ps) ≡ length q + length (concat ps) = length-append q (concat ps) in
    (lt, len, pieces-push room (left - room) ps p are (omega (arith, all, more, len)) (omega (arith, all, more, len, long)))

reads-push : (limit : Option ℕ) (F : File) (o : ℕ) (ps : List (List ℕ)) (p : List ℕ)
    → reads_traffic limit F o (ps ++ p ∷ []) ≡ reads_traffic limit F o ps + traffic_by limit F (command.Read (o + length (concat ps)) (length p))
reads-push limit F o [] p =
    let e : o ≡ o + 0 = omega arith in
    let f : traffic_by limit F (command.Read o (length p)) ≡ traffic_by limit F (command.Read (o + 0) (length p)) = ap (λ (n : ℕ). traffic_by limit F (command.Read n (length p))) e in
    omega (arith, f)
reads-push limit F o (q ∷ ps) p =
    let e : o + length q + length (concat ps) ≡ o + length (q ++ concat ps) = omega (arith, length-append q (concat ps)) in
    let f : traffic_by limit F (command.Read (o + length q + length (concat ps)) (length p)) ≡ traffic_by limit F (command.Read (o + length (q ++ concat ps)) (length p)) =
    ap (λ (n : ℕ). traffic_by limit F (command.Read n (length p))) e in
    omega (arith, f, reads-push limit F (o + length q) ps p)

wrote-push : (ps : List (List ℕ)) (p : List ℕ) → map (λ (piece : List ℕ). Wrote (length piece)) (ps ++ p ∷ []) ≡ map (λ (piece : List ℕ). Wrote (length piece)) ps ++ Wrote (length p) ∷ []
wrote-push [] p = refl
wrote-push (q ∷ ps) p = ap (λ (l : List Reply). Wrote (length q) ∷ l) (wrote-push ps p)

-- ---- sizes that a file can have

count_less : (cs a b : ℕ) → a ≤ b → chunk_count cs a ≤ chunk_count cs b
count_less cs a b le = elim (cases_lt 0 cs) [
  | inl some ↦ le-div ((a + cs - 1) / cs) (b + cs - 1) cs some (omega (arith, div-mul-le_self (a + cs - 1) cs, le))
  | inr none ↦
      let zero : cs ≡ 0 = omega (arith, none) in
      let no : chunk_count cs a ≡ 0 = ap (λ (n : ℕ). (a + n - 1) / n) zero ∙ div-zero (a + 0 - 1) in
      omega (arith, no)
]

pub can_have_less : (limit : Option ℕ) (F : File) (a b : ℕ) → a ≤ b → can_have limit F b ≡ true → can_have limit F a ≡ true
can_have_less limit F a b le can = both (nat_lt (layout_len F.shape b) (2 ^ 64)) (within limit (chunk_count F.shape.chunk_size b)) can short (room limit)
  where
    fewer : chunk_count F.shape.chunk_size a ≤ chunk_count F.shape.chunk_size b
    fewer = count_less F.shape.chunk_size a b le

    over : ℕ
    over = F.shape.nonce_len + tag_len F.shape

    less : layout_len F.shape a ≤ layout_len F.shape b
    less =
        let step : (F.shape.nonce_len + tag_len F.shape) * chunk_count F.shape.chunk_size a ≤ (F.shape.nonce_len + tag_len F.shape) * chunk_count F.shape.chunk_size b = mul-le-mul_left (F.shape.nonce_len + tag_len F.shape) fewer in
        let x : chunk_count F.shape.chunk_size a * (F.shape.nonce_len + tag_len F.shape) ≡ (F.shape.nonce_len + tag_len F.shape) * chunk_count F.shape.chunk_size a = omega arith in
        let y : chunk_count F.shape.chunk_size b * (F.shape.nonce_len + tag_len F.shape) ≡ (F.shape.nonce_len + tag_len F.shape) * chunk_count F.shape.chunk_size b = omega arith in
        omega (arith, step, x, y, le)

    short : nat_lt (layout_len F.shape b) (2 ^ 64) ≡ true → nat_lt (layout_len F.shape a) (2 ^ 64) ≡ true
    short is = lt-ltb (layout_len F.shape a) (2 ^ 64) (omega (arith, less, ltb-true (layout_len F.shape b) (2 ^ 64) is))

    room : (limit : Option ℕ) → within limit (chunk_count F.shape.chunk_size b) ≡ true → within limit (chunk_count F.shape.chunk_size a) ≡ true
    room None is = refl
    room (Some most) is = grind (arith, nat_tests, fewer)

    both : (t u : Bool) → t && u ≡ true → (t ≡ true → nat_lt (layout_len F.shape a) (2 ^ 64) ≡ true) → (u ≡ true → within limit (chunk_count F.shape.chunk_size a) ≡ true)
        → nat_lt (layout_len F.shape a) (2 ^ 64) && within limit (chunk_count F.shape.chunk_size a) ≡ true
    both true true is f g = ap (λ (t : Bool). t && within limit (chunk_count F.shape.chunk_size a)) (f refl) ∙ g refl
    both true false is f g = absurd (false≢true is)
    both false u is f g = absurd (false≢true is)

-- ---- a piece that was written

-- what is known of a file that a handle holds
pub held_short : (C : Cipher) (lawful : IsLawful C) (h : Handle) (F : File) (held : Holds C h F) → Short F.shape.chunk_size F.chunks
held_short C lawful h F held = subst (λ (F : File). Short F.shape.chunk_size F.chunks) (sym held.file)
    (chunks_short C lawful (C.chunk_key h.key h.header.id) h.header held.bytes held.is_file.length_fits (omega (arith, held.is_file.says.fields.least)))

pub held_some : (C : Cipher) (h : Handle) (F : File) (held : Holds C h F) → 0 < F.shape.chunk_size
held_some C h F held = subst (λ (F : File). 0 < F.shape.chunk_size) (sym held.file) (omega (arith, held.is_file.says.fields.least))

pub held_count : (C : Cipher) (h : Handle) (F : File) (held : Holds C h F) → length F.chunks ≡ chunk_count F.shape.chunk_size F.size
held_count C h F held = subst (λ (F : File). length F.chunks ≡ chunk_count F.shape.chunk_size F.size) (sym held.file)
    (length-chunks C (C.chunk_key h.key h.header.id) h.header held.bytes 0 (chunk_count h.header.chunk_size h.header.file_size))

module _ (C : Cipher) (lawful : IsLawful C) (E : List ℕ → Hashing) (old mid new : Handle) (o n x : ℕ) (xs : List ℕ) (stepped : Stepped C E mid new (command.Write o (x ∷ xs)) (Wrote n))
    (key : mid.key ≡ old.key) (limit : limit_of mid ≡ limit_of old) (unmarked : mid.broken ≡ false) (F : File) (b : List ℕ) (commands : List Command) (bytes : List ℕ) (at : o ≡ length bytes)
    (so_far : Filled C E old mid F b commands bytes) where
  abbrev c : Command
  c = command.Write o (x ∷ xs)

  abbrev now : File
  now = file_after (limit_of old) F commands

  went : Went C E mid new (command.Write o (x ∷ xs)) (Wrote n)
  went = stepped.went unmarked

  a : Answered C E mid new (file_after (limit_of old) F commands) so_far.holds.bytes (command.Write o (x ∷ xs)) (Wrote n)
  a = went.answered now so_far.holds refl

  told : so_far.holds.bytes ≡ traced (limit_of old) C old.key F commands so_far.nonces b
  told = same so_far.holds.bytes (traced (limit_of old) C old.key F commands so_far.nonces b) (sym so_far.holds.tells ∙ so_far.tells)
    where
      same : (x y : List ℕ) → Some x ≡ Some y → x ≡ y
      same x y e = cc

  applied : (apply (limit_of old) now c).1 ≡ after (file_after (limit_of old) F commands) (write_change (file_after (limit_of old) F commands).size o (x ∷ xs))
  applied = ap (λ (l : Option ℕ). (apply l now c).1) (sym limit) ∙ go (valid (limit_of mid) now c) a.due
    where
      go : (t : Bool) → Answers (λ r. OfTree E mid (KeptAnswer now c r)) (cond {A = Due × File} t (answer now c, changed now c) (Exactly (Refused (cause_of (limit_of mid) now c)), now)).0 (Wrote n)
          → (cond {A = Due × File} t (answer now c, changed now c) (Exactly (Refused (cause_of (limit_of mid) now c)), now)).1 ≡ after now (write_change now.size o (x ∷ xs))
      go true due = refl
      go false due = absurd (other (cause_of (limit_of mid) now c) due)
        where
          other : (kind : ErrorKind) → Wrote n ≡ Refused kind → ⊥
          other kind is = cc

  drawn : length a.nonces ≡ asked_by (limit_of old) now c
  drawn = subst (λ (l : Option ℕ). length a.nonces ≡ asked_by l now c) limit a.drawn

  tells : new.outside.bytes ≡ Some (bytes_after (limit_of old) C old.key now c a.nonces (traced (limit_of old) C old.key F commands so_far.nonces b))
  tells =
      a.tells
      ∙ ap (λ (l : Option ℕ). Some (bytes_after l C mid.key now c a.nonces so_far.holds.bytes)) limit
      ∙ ap (λ (k : List ℕ). Some (bytes_after (limit_of old) C k now c a.nonces so_far.holds.bytes)) key
      ∙ ap (λ (l : List ℕ). Some (bytes_after (limit_of old) C old.key now c a.nonces l)) told

  after_is : file_after (limit_of old) F (commands ++ c ∷ []) ≡ (apply (limit_of old) now c).1
  after_is = after-push (limit_of old) F commands c

  moved : Moved mid.outside new.outside (max (file_layout now) (file_layout (apply (limit_of old) now c).1)) (traffic_by (limit_of old) now c) (asked_by (limit_of old) now c)
      (changes_by (limit_of old) now c) (calls_by (limit_of old) now c)
  moved = subst (λ (l : Option ℕ). Bounded l mid.outside new.outside now c) limit (went.bounded now (inl so_far.holds))

  has : HasBytes (file_after (limit_of old) F (commands ++ c ∷ [])) (bytes ++ x ∷ xs)
  has = subst (λ (G : File). HasBytes G (bytes ++ x ∷ xs)) (sym (after_is ∙ applied))
      (has_more now bytes (x ∷ xs) o (held_short C lawful mid now so_far.holds) (held_some C mid now so_far.holds) so_far.has at (omega arith))

  pub filled_more : Filled C E old new F b (commands ++ command.Write o (x ∷ xs) ∷ []) (bytes ++ x ∷ xs)
  filled_more = record {
    holds = subst (Holds C new) (sym after_is) (subst (λ (l : Option ℕ). Holds C new (apply l now c).1) limit a.holds);
    has = has;
    shape = ap (λ (G : File). G.shape) (after_is ∙ applied) ∙ so_far.shape;
    id = ap (λ (G : File). G.id) (after_is ∙ applied) ∙ so_far.id;
    nonces = so_far.nonces ++ a.nonces;
    drawn = omega (arith, length-append so_far.nonces a.nonces, so_far.drawn, drawn, asked-push (limit_of old) F commands c);
    taken = takes_then old.outside.left mid.outside.left new.outside.left so_far.nonces a.nonces so_far.taken a.taken;
    tells = tells ∙ ap (λ (l : List ℕ). Some l) (sym (traced-push (limit_of old) C old.key F commands c so_far.nonces a.nonces b so_far.drawn drawn));
    grown = λ was. subst (λ (G : File). WithTree E new (Grown G)) (sym after_is) (subst (λ (l : Option ℕ). WithTree E new (Grown (apply l now c).1)) limit (a.grown (inl (so_far.grown was))));
    moved = moved_less old.outside new.outside _ _ _ _ _ _ _ _ _ _ (moved_then old.outside mid.outside new.outside _ _ _ _ _ _ _ _ _ _ so_far.moved moved)
        (omega (arith, longest-push (limit_of old) F commands c, longest_last (limit_of old) F commands))
        (omega (arith, traffic-push (limit_of old) F commands c))
        (omega (arith, asked-push (limit_of old) F commands c))
        (omega (arith, changes-push (limit_of old) F commands c))
        (omega (arith, calls-push (limit_of old) F commands c));
    strays = went.strays now so_far.holds ∙ so_far.strays;
  }

-- how long a file is after a write
size_written : (C : Cipher) (o : ℕ) (h : Header) (p : List ℕ) → 0 < length p → size_after (outline C h) (command.Write o p) ≡ max h.file_size (o + length p)
size_written C o h [] busy = absurd (omega (arith, busy))
size_written C o h (x ∷ xs) busy = refl

filled_piece : (C : Cipher) (lawful : IsLawful C) (E : List ℕ → Hashing) (old mid new : Handle) (o n : ℕ) (p : List ℕ) → 0 < length p → Stepped C E mid new (command.Write o p) (Wrote n)
    → mid.key ≡ old.key → limit_of mid ≡ limit_of old → mid.broken ≡ false → (F : File) (b : List ℕ) (commands : List Command) (bytes : List ℕ) → o ≡ length bytes
    → Filled C E old mid F b commands bytes → Filled C E old new F b (commands ++ command.Write o p ∷ []) (bytes ++ p)
filled_piece C lawful E old mid new o n [] busy stepped key limit unmarked F b commands bytes at so_far = absurd (omega (arith, busy))
filled_piece C lawful E old mid new o n (x ∷ xs) busy stepped key limit unmarked F b commands bytes at so_far =
    filled_more C lawful E old mid new o n x xs stepped key limit unmarked F b commands bytes at so_far

-- a write that is valid isn't refused
no_refusal : (C : Cipher) (E : List ℕ → Hashing) (h : Handle) (o : ℕ) (p : List ℕ) (kind : ErrorKind) → 0 < length p → (F : File) → can_have (limit_of h) F (max F.size (o + length p)) ≡ true
    → none_missing (needed F (command.Write o p)) 0 F.chunks ≡ true → (P : Reply → Type 0) → Answers P (apply (limit_of h) F (command.Write o p)).0 (Refused kind) → ⊥
no_refusal C E h o [] kind busy F can none P due = absurd (omega (arith, busy))
no_refusal C E h o (x ∷ xs) kind busy F can none P due = other (subst (λ (t : Bool). Answers P (cond {A = Due × File} t (answer F (command.Write o (x ∷ xs)), changed F (command.Write o (x ∷ xs))) (Exactly (Refused (cause_of (limit_of h) F (command.Write o (x ∷ xs)))), F)).0 (Refused kind)) is due)
  where
    is : valid (limit_of h) F (command.Write o (x ∷ xs)) ≡ true
    is = rw (can, none) refl

    other : Refused kind ≡ Wrote (length (x ∷ xs)) → ⊥
    other is = cc

-- ---- all together

module _ (C D : Cipher) (lawful : IsLawful C) (lawful' : IsLawful D) (E H : List ℕ → Hashing) (room : ℕ) (from to : Handle) (from_unmarked : from.broken ≡ false) (to_unmarked : to.broken ≡ false)
    (empty : to.header.file_size ≡ 0) where
  pub moves_none : Moves C D H room from from to to []
  moves_none = record {
    are = tt;
    only_read = only_same C from;
    read = λ F held k lt. absurd (omega (arith, lt));
    traffic = omega arith;
    key = refl;
    header = ap (with_size to.header) empty;
    limit = refl;
    unmarked = to_unmarked;
    written = λ G held. record {
      holds = held;
      has = record { size = ap (λ (F : File). F.size) held.file ∙ empty; begins = λ k lt. absurd (omega (arith, lt)) };
      shape = refl;
      id = refl;
      nonces = [];
      drawn = refl;
      taken = takes_none to.outside.left;
      tells = held.tells;
      grown = λ was. was;
      moved = moved_less to.outside to.outside 0 0 0 0 0 _ _ _ _ _ (moved_same to.outside to.outside refl) (omega arith) (omega arith) (omega arith) (omega arith) (omega arith);
      strays = refl;
    };
    numbers = numbers_none D to to_unmarked;
    quiet = (quiet_same from.outside from.outside refl, quiet_same to.outside to.outside refl);
  }

  module _ (here there : Handle) (pieces : List (List ℕ)) (moves : Moves C D H room from here to there pieces) where
    unread : here.broken ≡ false
    unread = ap (λ (h : Handle). h.broken) moves.only_read.same ∙ from_unmarked

    size_here : here.header.file_size ≡ from.header.file_size
    size_here = ap (λ (h : Handle). h.header.file_size) moves.only_read.same

    -- the next piece was read and written
    module _ (here' there' : Handle) (o len n : ℕ) (piece : List ℕ) (read : Stepped C E here here' (command.Read o len) (Bytes piece)) (write : Stepped D H there there' (command.Write o piece) (Wrote n))
        (at : o ≡ length (concat pieces)) (is : len ≡ min room (from.header.file_size - o)) (some : 0 < room) (more : o < from.header.file_size) (n_is : n ≡ length piece) where
      len_is : length piece ≡ len
      len_is = read_len C E here here' o len piece unread read (omega (arith, is, size_here, more))

      next_bytes : (F : File) → Holds C from F → Begins F (concat (pieces ++ piece ∷ []))
      next_bytes F held = subst (Begins F) (sym (concat-push pieces piece)) go
        where
          go : Begins F (concat pieces ++ piece)
          go k lt = elim (cases_lt k (length (concat pieces))) [
            | inl early ↦ subst (IsByteOf F.shape.chunk_size F.chunks k) (sym (get_or_append_left (concat pieces) piece 0 k early)) (moves.read F held k early)
            | inr late ↦
                let e : o + (k - length (concat pieces)) ≡ k = omega (arith, at, late) in
                subst (IsByteOf F.shape.chunk_size F.chunks k) (sym (get_or-append_right (concat pieces) piece (length (concat pieces)) k 0 refl late))
                (subst (λ (i : ℕ). IsByteOf F.shape.chunk_size F.chunks i (get_or piece (k - length (concat pieces)) 0)) e
                (read_bytes C lawful E here here' o len piece unread read (omega (arith, is, size_here, more)) F (still_held C from here moves.only_read F held) (k - length (concat pieces))
                (omega (arith, lt, late, length-append (concat pieces) piece))))
          ]

      list : writes 0 pieces ++ command.Write o piece ∷ [] ≡ writes 0 (pieces ++ piece ∷ [])
      list = sym (writes-push 0 pieces piece ∙ ap (λ (i : ℕ). writes 0 pieces ++ command.Write i piece ∷ []) (let e : 0 + length (concat pieces) ≡ o = omega (arith, at) in e))

      replies : map (λ (piece : List ℕ). Wrote (length piece)) pieces ++ Wrote n ∷ [] ≡ map (λ (piece : List ℕ). Wrote (length piece)) (pieces ++ piece ∷ [])
      replies = ap (λ (i : ℕ). map (λ (piece : List ℕ). Wrote (length piece)) pieces ++ Wrote i ∷ []) n_is ∙ sym (wrote-push pieces piece)

      step : Went D H there there' (command.Write o piece) (Wrote n)
      step = write.went moves.unmarked

      pub moves_more : Moves C D H room from here' to there' (pieces ++ piece ∷ [])
      moves_more = record {
        are = pieces-push room from.header.file_size pieces piece moves.are (omega (arith, at, more)) (omega (arith, len_is, is, at));
        only_read = only_then C from here here' moves.only_read (only_read C E here here' o len (Bytes piece) unread read);
        read = next_bytes;
        traffic = traffic;
        key = step.stays.key ∙ moves.key;
        header = header;
        limit = step.stays.limit ∙ moves.limit;
        unmarked = unmarked there'.broken refl;
        written = written;
        numbers = subst (λ (l : List Command). NumbersSoFar D to there' l (map (λ (piece : List ℕ). Wrote (length piece)) (pieces ++ piece ∷ []))) list
            (subst (λ (l : List Reply). NumbersSoFar D to there' (writes 0 pieces ++ command.Write o piece ∷ []) l) replies
            (numbers_more D H to there there' (writes 0 pieces) (command.Write o piece) (Wrote n) (map (λ (piece : List ℕ). Wrote (length piece)) pieces) moves.numbers moves.limit write refl));
        quiet = (
          quiet_then from.outside here.outside here'.outside moves.quiet.0 ((read.went unread).quiet refl),
          quiet_then to.outside there.outside there'.outside moves.quiet.1 (step.quiet refl),
        );
      }
        where
          traffic : here'.outside.traffic ≤ from.outside.traffic + reads_traffic (limit_of from) (outline C from.header) 0 (pieces ++ piece ∷ [])
          traffic =
              let L = limit_of from in
              let F = outline C from.header in
              let most = ((read.went unread).bounded (outline C here.header) (inr refl)).traffic_most in
              let e : traffic_by (limit_of here) (outline C here.header) (command.Read o len) ≡ traffic_by (limit_of from) (outline C from.header) (command.Read o len) =
              ap (λ (h : Handle). traffic_by (limit_of h) (outline C h.header) (command.Read o len)) moves.only_read.same in
              let f : traffic_by (limit_of from) (outline C from.header) (command.Read o len) ≡ traffic_by (limit_of from) (outline C from.header) (command.Read (0 + length (concat pieces)) (length piece)) =
              ap (λ (i : ℕ). traffic_by (limit_of from) (outline C from.header) (command.Read i len)) (let i : o ≡ 0 + length (concat pieces) = omega (arith, at) in i)
              ∙ ap (λ (l : ℕ). traffic_by (limit_of from) (outline C from.header) (command.Read (0 + length (concat pieces)) l)) (sym len_is) in
              omega (arith, moves.traffic, most, e, f, reads-push L F 0 pieces piece)

          unmarked : (t : Bool) → there'.broken ≡ t → there'.broken ≡ false
          unmarked false is = is
          unmarked true is = absurd (false≢true (step.marked.cause is).1)

          header : there'.header ≡ with_size to.header (length (concat (pieces ++ piece ∷ [])))
          header =
              step.stays.header
              ∙ ap (with_size there.header) (size_written D o there.header piece (omega (arith, len_is, is, more, some)))
              ∙ ap (λ (h : Header). with_size h (max h.file_size (o + length piece))) moves.header
              ∙ ap (with_size to.header) (let e : max (length (concat pieces)) (o + length piece) ≡ length (concat (pieces ++ piece ∷ [])) = omega (arith, at, ap length (concat-push pieces piece), length-append (concat pieces) piece) in e)

          written : (G : File) (held : Holds D to G) → Filled D H to there' G held.bytes (writes 0 (pieces ++ piece ∷ [])) (concat (pieces ++ piece ∷ []))
          written G held =
              subst (λ (l : List Command). Filled D H to there' G held.bytes l (concat (pieces ++ piece ∷ []))) list
              (subst (λ (l : List ℕ). Filled D H to there' G held.bytes (writes 0 pieces ++ command.Write o piece ∷ []) l) (sym (concat-push pieces piece))
              (filled_piece D lawful' H to there there' o n piece (omega (arith, len_is, is, more, some)) write moves.key moves.limit moves.unmarked G held.bytes (writes 0 pieces) (concat pieces) at (moves.written G held)))

    -- the next piece was refused as it was read
    pub not_read : (after : Handle) (o len : ℕ) (kind : ErrorKind) → Stepped C E here after (command.Read o len) (Refused kind) → Unread C E here after o len kind
    not_read after o len kind stepped = record {
      stepped = stepped;
      cause = read_cause C E here after o len kind unread stepped;
      missing = read_missing C E here after o len kind unread stepped;
    }

    -- the next piece was read, and refused as it was written
    module _ (here' after : Handle) (o len : ℕ) (piece : List ℕ) (kind : ErrorKind) (read : Stepped C E here here' (command.Read o len) (Bytes piece)) (write : Stepped D H there after (command.Write o piece) (Refused kind))
        (at : o ≡ length (concat pieces)) (is : len ≡ min room (from.header.file_size - o)) (some : 0 < room) (more : o < from.header.file_size)
        (can : can_have (limit_of to) (outline D to.header) from.header.file_size ≡ true) where
      pub refused_len : length piece ≡ len
      refused_len = read_len C E here here' o len piece unread read (omega (arith, is, size_here, more))

      busy : 0 < length piece
      busy = omega (arith, refused_len, is, more, some)

      shape : shape_of D there.header ≡ shape_of D to.header
      shape = ap (λ (h : Header). shape_of D h) moves.header

      -- the new file can have the size that the write asks
      room_for : (F : File) → F.shape ≡ shape_of D there.header → F.size ≡ o → can_have (limit_of there) F (max F.size (o + length piece)) ≡ true
      room_for F same size =
          can_have_less (limit_of there) F (max F.size (o + length piece)) from.header.file_size (omega (arith, size, refused_len, is, more))
          (ap (λ (s : Shape). can_have (limit_of there) (record { shape = s; id = []; size = 0; chunks = [] }) from.header.file_size) (same ∙ shape)
          ∙ ap (λ (l : Option ℕ). can_have l (outline D to.header) from.header.file_size) moves.limit ∙ can)

      outline_size : there.header.file_size ≡ o
      outline_size = ap (λ (h : Header). h.file_size) moves.header ∙ sym at

      pub write_told : (G : File) → Holds D to G → is_fault (Refused kind) ≡ true
      write_told G held = go (is_fault (Refused kind)) refl
        where
          f : Filled D H to there G held.bytes (writes 0 pieces) (concat pieces)
          f = moves.written G held

          now : File
          now = file_after (limit_of to) G (writes 0 pieces)

          go : (t : Bool) → is_fault (Refused kind) ≡ t → is_fault (Refused kind) ≡ true
          go true is = is
          go false calm =
              let a = (write.went moves.unmarked).answered (file_after (limit_of to) G (writes 0 pieces)) f.holds calm in
              absurd (no_refusal D H there o piece kind busy (file_after (limit_of to) G (writes 0 pieces))
              (room_for (file_after (limit_of to) G (writes 0 pieces)) (ap (λ (F : File). F.shape) f.holds.file) (f.has.size ∙ sym at))
              (none_missing_of (needed (file_after (limit_of to) G (writes 0 pieces)) (command.Write o piece)) 0 (file_after (limit_of to) G (writes 0 pieces)).chunks
              (all_there (file_after (limit_of to) G (writes 0 pieces)) (concat pieces) (held_short D lawful' there (file_after (limit_of to) G (writes 0 pieces)) f.holds) (held_some D there (file_after (limit_of to) G (writes 0 pieces)) f.holds)
              (held_count D there (file_after (limit_of to) G (writes 0 pieces)) f.holds) f.has))
              _ a.due)

      pub write_cause : ((is_fault (Refused kind) ≡ true) × Caused kind there.outside after.outside) ⊎ (kind ≡ kinds.AuthenticationFailed)
      write_cause = go (is_fault (Refused kind)) refl
        where
          same : (k : ErrorKind) → Refused kind ≡ Refused k → kind ≡ k
          same k is = cc

          shaped : (p : List ℕ) → 0 < length p → can_have (limit_of there) (outline D there.header) (max there.header.file_size (o + length p)) ≡ true
              → Shaped (limit_of there) (outline D there.header) (command.Write o p) (Refused kind) → kind ≡ kinds.AuthenticationFailed
          shaped [] some can s = absurd (omega (arith, some))
          shaped (x ∷ xs) some can (inl (is, _, _)) = same kinds.AuthenticationFailed is
          shaped (x ∷ xs) some can (inr due) = absurd (no_refusal D H there o (x ∷ xs) kind some (outline D there.header) can refl (HasForm (command.Write o (x ∷ xs))) due)

          go : (t : Bool) → is_fault (Refused kind) ≡ t → ((is_fault (Refused kind) ≡ true) × Caused kind there.outside after.outside) ⊎ (kind ≡ kinds.AuthenticationFailed)
          go true fault =
              let f = (write.went moves.unmarked).failed fault in
              inl (fault, subst (λ (k : ErrorKind). Caused k there.outside after.outside) (sym (same f.kind f.is)) f.cause)
          go false calm = inr (shaped piece busy (room_for (outline D there.header) refl outline_size) ((write.went moves.unmarked).shaped calm))

      pub not_written : Unwritten C D E H from here here' to there after o piece kind
      not_written = record {
        read = subst (λ (l : ℕ). Stepped C E here here' (command.Read o l) (Bytes piece)) (sym refused_len) read;
        bytes = λ F held. read_bytes C lawful E here here' o len piece unread read (omega (arith, is, size_here, more)) F (still_held C from here moves.only_read F held);
        stepped = write;
        cause = write_cause;
        told = write_told;
      }

-- ---- what the loop carries

-- pieces of this many bytes were moved
abbrev pub Moving : (C D : Cipher) (H : List ℕ → Hashing) (room : ℕ) (from here to there : Handle) (o : ℕ) → Type 0
Moving C D H room from here to there o = (pieces : List (List ℕ)) × Moves C D H room from here to there pieces × (o ≡ length (concat pieces))

module _ (C D : Cipher) (lawful : IsLawful C) (lawful' : IsLawful D) (E H : List ℕ → Hashing) (room : ℕ) (from to : Handle) (from_unmarked : from.broken ≡ false) (to_unmarked : to.broken ≡ false)
    (empty : to.header.file_size ≡ 0) (some : 0 < room) (can : can_have (limit_of to) (outline D to.header) from.header.file_size ≡ true) where
  pub moving_none : Moving C D H room from from to to 0
  moving_none = ([], moves_none C D lawful lawful' E H room from to from_unmarked to_unmarked empty, refl)

  module _ (here there : Handle) (o len : ℕ) (is : len ≡ min room (from.header.file_size - o)) where
    pub moving_more : (here' there' : Handle) (n : ℕ) → o < from.header.file_size → Passed C D E H here here' there there' o len (Ok n) → Moving C D H room from here to there o
        → Moving C D H room from here' to there' (o + n) × (n ≡ len)
    moving_more here' there' n more (piece, n_is, read, write) (pieces, moves, at) =
        let long : length piece ≡ len = len_is C D lawful lawful' E H room from to from_unmarked to_unmarked empty here there pieces moves here' there' o len n piece read write at is some more n_is in (
          (
            pieces ++ piece ∷ [],
            moves_more C D lawful lawful' E H room from to from_unmarked to_unmarked empty here there pieces moves here' there' o len n piece read write at is some more n_is,
            omega (arith, at, n_is, ap length (concat-push pieces piece), length-append (concat pieces) piece),
          ),
          n_is ∙ long,
        )

    pub goes_cut : (after after' : Handle) (e : ConvertError) → o < from.header.file_size → Passed C D E H here after there after' o len (Err e) → Moving C D H room from here to there o
        → Converted C D E H room from after to after' (Err e)
    goes_cut after after' e more passed (pieces, moves, at) = record {
      from_marked = λ set. absurd (false≢true (sym from_unmarked ∙ set));
      to_marked = λ _ set. absurd (false≢true (sym to_unmarked ∙ set));
      too_long = λ _ _ cannot. absurd (false≢true (sym cannot ∙ can));
      goes = λ _ _ _. record { pieces = pieces; here = here; there = there; moves = moves; ends = (omega (arith, at, more), stopped e.side (kind_of e.error) passed) };
      only_read = only e.side (kind_of e.error) passed;
    }
      where
        unread : here.broken ≡ false
        unread = ap (λ (h : Handle). h.broken) moves.only_read.same ∙ from_unmarked

        only : (s : Side) (kind : ErrorKind) → RefusedBy C D E H here after there after' o len s kind → OnlyRead C from after
        only side.From kind (read, _) = only_then C from here after moves.only_read (OnlyReads.only_read C E here after o len (Refused kind) unread read)
        only side.To kind (piece, read, write) = only_then C from here after moves.only_read (OnlyReads.only_read C E here after o len (Bytes piece) unread read)

        stopped : (s : Side) (kind : ErrorKind) → RefusedBy C D E H here after there after' o len s kind → Stopped C D E H room from after to after' here there pieces s kind
        stopped side.From kind (read, same) = (
          subst (λ (i : ℕ). Unread C E here after i (min room (from.header.file_size - i)) kind) at
              (subst (λ (l : ℕ). Unread C E here after o l kind) is (not_read C D lawful lawful' E H room from to from_unmarked to_unmarked empty here there pieces moves after o len kind read)),
          same,
        )
        stopped side.To kind (piece, read, write) = (
          piece,
          refused_len C D lawful lawful' E H room from to from_unmarked to_unmarked empty here there pieces moves after after' o len piece kind read write at is some more can
              ∙ is ∙ ap (λ (i : ℕ). min room (from.header.file_size - i)) at,
          subst (λ (i : ℕ). Unwritten C D E H from here after to there after' i piece kind) at (not_written C D lawful lawful' E H room from to from_unmarked to_unmarked empty here there pieces moves after after' o len piece kind read write at is some more can),
          quiet_then from.outside here.outside after.outside moves.quiet.0 ((read.went unread).quiet refl),
        )

  pub goes_whole : (here there : Handle) (o : ℕ) (u : Unit {0}) → from.header.file_size ≤ o → Moving C D H room from here to there o → Converted C D E H room from here to there (Ok u)
  goes_whole here there o u all (pieces, moves, at) = record {
    from_marked = λ set. absurd (false≢true (sym from_unmarked ∙ set));
    to_marked = λ _ set. absurd (false≢true (sym to_unmarked ∙ set));
    too_long = λ _ _ cannot. absurd (false≢true (sym cannot ∙ can));
    goes = λ _ _ _. record { pieces = pieces; here = here; there = there; moves = moves; ends = (omega (arith, at, all, total_le room from.header.file_size pieces moves.are), refl, refl) };
    only_read = moves.only_read;
  }
