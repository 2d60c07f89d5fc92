-- A file is read piece by piece, and the entries are found in it.
use Rattle.std.proofs.Common.{◌≡◌, ◌≢◌, inl, inr, Bool, true, false, cond, ◌&&◌, ℕ, zero, suc, ◌+◌, ◌-◌, ◌*◌, ◌/◌, ◌<◌, ◌≤◌, min, List, ◌++◌, length, take, drop, Option, Some, None, refl, sym, ◌∙◌, ap, subst, arith, length-take, length-drop, take-append-drop, take-add, drop-drop}
use Rattle.std.proofs.Math.Nat.{lt-div-mul-add}
use Rattle.std.specs.Prelude.{nat_eq, nat_lt}
use Rattle.std.specs.Option.{option_map}
use Rattle.std.proofs.lemmas.Bool.Decides.{nat_tests}
use Rattle.std.proofs.lemmas.List.{drop_all, append-nil, drop-take, take-take, take-append-le, drop-append-le, take_at}
use Rattle.raf_tree.specs.Kept.{Kept as Tree}
use Rattle.raf_format.specs.Cipher.{Cipher}
use Rattle.raf_format.specs.File.{File, IsFile, file_of, chunk_count, record_len, file_layout}
use Rattle.raf_format.specs.declared.header.Header.{Header}
use Rattle.raf.specs.Concern.{needed, sum_where}
use Rattle.raf.specs.Image.{traffic_by, tree_traffic}
use Rattle.raf.specs.Outside.{Outside, Quiet, Moved}
use Rattle.raf.specs.Handle.{Handle, Holds, Measures, limit_of, outline}
use Rattle.raf.specs.Content.{IsWhole, IsWholeTo, content, Contents}
use Rattle.raf.specs.declared.command.Command.TheVariants as asks
use Rattle.raf_io.specs.declared.errors.ErrorKind.TheVariants.{Io, InvalidArgument, AuthenticationFailed, AlreadyExists, NotFound as Missing, Overflow, MerkleNotEnabled, CorruptedChunk, Rng, Hash, Broken, OutOfMemory}
use Rattle.raf_log.specs.Entries.{spell}
use Rattle.raf_log.specs.Log.{Spaced, log_handle}
use Rattle.raf_log.specs.Walk.{Walked}
use Rattle.raf_log.specs.Opening.{Looked, LogOpened, LogNotOpened, WhyNoLog, LogFault, ReadsAtMost, reads_traffic, pieces_traffic}
use Rattle.raf_log.specs.Sweep.{Calm, Passed, Shows, PieceRead, FoundAll, NotFound}
use Rattle.raf_log.specs.declared.error.LogErrorKind.{LogErrorKind}
use Rattle.raf_log.specs.declared.error.LogErrorKind.TheVariants as log
use Rattle.raf.proofs.Moves.{quiet_then, caused_later, moved_less, moved_then}
use Rattle.raf_log.proofs.Looks.{none_summed}
use Rattle.raf_log.proofs.Walks.{Found, walks_found, ends_short}

-- what was read leaves the file that is held
pub holds_on : (C : Cipher) (old new : Handle) (F : File) → Looked C old new → Holds C old F → Holds C new F
holds_on C old new F l held = record {
  bytes = held.bytes;
  tells = l.bytes ∙ held.tells;
  is_file = subst (λ (k : List ℕ). IsFile C k held.bytes new.header) (sym l.key) (subst (λ (h : Header). IsFile C old.key held.bytes h) (sym l.header) held.is_file);
  file = held.file ∙ ap (λ (k : List ℕ). file_of C k old.header held.bytes) (sym l.key) ∙ ap (λ (h : Header). file_of C new.key h held.bytes) (sym l.header);
}

pub holds_back : (C : Cipher) (old new : Handle) (F : File) → Looked C old new → Holds C new F → Holds C old F
holds_back C old new F l held = record {
  bytes = held.bytes;
  tells = sym l.bytes ∙ held.tells;
  is_file = subst (λ (k : List ℕ). IsFile C k held.bytes old.header) l.key (subst (λ (h : Header). IsFile C new.key held.bytes h) l.header held.is_file);
  file = held.file ∙ ap (λ (k : List ℕ). file_of C k new.header held.bytes) l.key ∙ ap (λ (h : Header). file_of C old.key h held.bytes) l.header;
}

pub looked_then : (C : Cipher) (a b c : Handle) → Looked C a b → Looked C b c → Looked C a c
looked_then C a b c p q = record {
  key = q.key ∙ p.key;
  header = q.header ∙ p.header;
  tree = q.tree ∙ p.tree;
  broken = q.broken ∙ p.broken;
  bytes = q.bytes ∙ p.bytes;
  durable = q.durable ∙ p.durable;
  setting = q.setting ∙ p.setting;
  left = λ F held. q.left F (holds_on C a b F p held) ∙ p.left F held;
  strays = λ F held. q.strays F (holds_on C a b F p held) ∙ p.strays F held;
}

pub calm_then : (C : Cipher) (a b c : Handle) → Calm C a b → Calm C b c → Calm C a c
calm_then C a b c p q = record {
  looked = looked_then C a b c p.looked q.looked;
  unmarked = p.unmarked;
  quiet = quiet_then a.outside b.outside c.outside p.quiet q.quiet;
}

pub fault_after : (kind : LogErrorKind) (a b c : Outside) → Quiet a b → LogFault kind b c → LogFault kind a c
fault_after (log.Raf Io) a b c q f = caused_later Io a b c q f
fault_after (log.Raf Rng) a b c q f = caused_later Rng a b c q f
fault_after (log.Raf Hash) a b c q f = caused_later Hash a b c q f
fault_after (log.Raf (InvalidArgument r)) a b c q f = quiet_then a b c q f
fault_after (log.Raf AuthenticationFailed) a b c q f = quiet_then a b c q f
fault_after (log.Raf AlreadyExists) a b c q f = quiet_then a b c q f
fault_after (log.Raf Missing) a b c q f = quiet_then a b c q f
fault_after (log.Raf Overflow) a b c q f = quiet_then a b c q f
fault_after (log.Raf MerkleNotEnabled) a b c q f = quiet_then a b c q f
fault_after (log.Raf (CorruptedChunk i)) a b c q f = quiet_then a b c q f
fault_after (log.Raf Broken) a b c q f = quiet_then a b c q f
fault_after (log.Raf OutOfMemory) a b c q f = quiet_then a b c q f
fault_after log.Format a b c q f = quiet_then a b c q f
fault_after log.TooLong a b c q f = quiet_then a b c q f
fault_after log.OutOfMemory a b c q f = quiet_then a b c q f
fault_after log.Overflow a b c q f = quiet_then a b c q f

why_later : (C : Cipher) (a b : Handle) (kind : LogErrorKind) → Calm C a b → WhyNoLog C b kind → WhyNoLog C a kind
why_later C a b (log.Raf Broken) calm why = sym calm.looked.broken ∙ why
why_later C a b (log.Raf Io) calm why = calm.unmarked
why_later C a b (log.Raf AuthenticationFailed) calm why = (calm.unmarked, λ F held. why.1 F (holds_on C a b F calm.looked held))
why_later C a b (log.Raf (InvalidArgument r)) calm why = absurd why
why_later C a b (log.Raf AlreadyExists) calm why = absurd why
why_later C a b (log.Raf Missing) calm why = absurd why
why_later C a b (log.Raf Overflow) calm why = absurd why
why_later C a b (log.Raf MerkleNotEnabled) calm why = absurd why
why_later C a b (log.Raf (CorruptedChunk i)) calm why = absurd why
why_later C a b (log.Raf Rng) calm why = absurd why
why_later C a b (log.Raf Hash) calm why = absurd why
why_later C a b (log.Raf OutOfMemory) calm why = absurd why
why_later C a b log.Format calm why = (calm.unmarked, λ F held. why.1 F (holds_on C a b F calm.looked held))
why_later C a b log.TooLong calm why = absurd why
why_later C a b log.OutOfMemory calm why = calm.unmarked
why_later C a b log.Overflow calm why = absurd why

-- refused after pieces that were read
pub refused_later : (C : Cipher) (a b c : Handle) (kind : LogErrorKind) → Calm C a b → NotFound C b c kind → NotFound C a c kind
refused_later C a b c kind calm n = record {
  looked = looked_then C a b c calm.looked n.looked;
  why = why_later C a b kind calm n.why;
  fault = fault_after kind a.outside b.outside c.outside calm.quiet n.fault;
}

pub no_memory : (C : Cipher) (a b : Handle) → Calm C a b → NotFound C a b log.OutOfMemory
no_memory C a b calm = record { looked = calm.looked; why = calm.unmarked; fault = calm.quiet }

-- ---- bytes in a window on others

-- those that are held, and behind them those that were read
pub joined : (x w front : List ℕ) (held end : ℕ) → take held w ≡ front → length front ≡ held → held ≤ end → take (length front) (drop (end - held) x) ≡ front
    → take (length (drop held w)) (drop end x) ≡ drop held w → take (length w) (drop (end - held) x) ≡ w
joined x w front held end same long le shows read =
    let within : held ≤ length w = omega (arith, ap length same, length-take held w, long) in
    let size : length w ≡ held + length (drop held w) = omega (arith, length-drop held w, within) in
    let place : end - held + held ≡ end = omega (arith, le) in
    ap (λ (n : ℕ). take n (drop (end - held) x)) size
    ∙ take-add held (length (drop held w)) (drop (end - held) x)
    ∙ ap (λ (l : List ℕ). l ++ take (length (drop held w)) (drop held (drop (end - held) x))) (ap (λ (n : ℕ). take n (drop (end - held) x)) (sym long) ∙ shows ∙ sym same)
    ∙ ap (λ (l : List ℕ). take held w ++ take (length (drop held w)) l) (drop-drop held (end - held) x ∙ ap (λ (n : ℕ). drop n x) place)
    ∙ ap (λ (l : List ℕ). take held w ++ l) read
    ∙ take-append-drop held w

-- the front of a buffer whose front was written
pub front_of : (n len : ℕ) (w items : List ℕ) → n ≤ len → n ≤ length w → take n (take len (w ++ drop (length w) items)) ≡ take n w
front_of n len w items le within = take-take n len (w ++ drop (length w) items) le ∙ take-append-le n w (drop (length w) items) within

-- the last ones
pub last_stand : (x w : List ℕ) (at k : ℕ) → take (length w) (drop at x) ≡ w → k ≤ length w → take k (drop (at + (length w - k)) x) ≡ drop (length w - k) w
last_stand x w at k is le =
    let size : length w ≡ (length w - k) + k = omega (arith, le) in
    sym (ap (λ (l : List ℕ). drop (length w - k) l) (sym is ∙ ap (λ (n : ℕ). take n (drop at x)) size)
    ∙ drop-take (length w - k) k (drop at x)
    ∙ ap (λ (l : List ℕ). take k l) (drop-drop (length w - k) at x))

-- a window that was read shows what it holds, and so does its end
module _ (C : Cipher) (old new : Handle) (held len end : ℕ) (front w : List ℕ) (same : take held w ≡ front) (size : length front ≡ held) (long : length w ≡ held + len) (le : held ≤ end) (shows : Shows C old (end - held) front)
    (read : PieceRead C old new end (drop held w)) where
  pub window_shows : Shows C old (end - held) w
  window_shows = λ F holds whole. joined (content F) w front held end same size le (shows F holds whole) (read.shows F holds whole)

  pub last_shows : (n : ℕ) (now rest : List ℕ) → n ≤ held + len → take n now ≡ take n (drop (held + len - n) (w ++ rest)) → Shows C old (end + len - n) (take n now)
  last_shows n now rest fits moved = λ F holds whole.
      let last : take n (drop (held + len - n) (w ++ rest)) ≡ drop (held + len - n) w =
      ap (λ (l : List ℕ). take n l) (drop-append-le (held + len - n) w rest (omega (arith, long)))
      ∙ take_at (drop (held + len - n) w) rest n (omega (arith, length-drop (held + len - n) w, long, fits)) in
      let is : take n now ≡ drop (held + len - n) w = moved ∙ last in
      let count : length (take n now) ≡ n = omega (arith, ap length is, length-drop (held + len - n) w, fits, long) in
      let place : end - held + (length w - n) ≡ end + len - n = omega (arith, fits, long, le) in
      ap (λ (k : ℕ). take k (drop (end + len - n) (content F))) count
      ∙ ap (λ (k : ℕ). take n (drop k (content F))) (sym place)
      ∙ last_stand (content F) w (end - held) n (window_shows F holds whole) (omega (arith, fits, long))
      ∙ ap (λ (k : ℕ). drop (k - n) w) long ∙ sym is

-- ---- how far the file is read, and the entries are found

-- the most that is asked from here on fits what is asked in all
pub record Reaches (C : Cipher) (old now : Handle) (end size : ℕ) : Type 0 where
  pub left : ℕ
  pub enough : size ≤ end + left * 1048576
  pub asked : (F : File) → Measures C old F → (done : ℕ) × Moved old.outside now.outside (file_layout F) done 0 0 0
      × (done + reads_traffic (limit_of old) F left end ≤ pieces_traffic (limit_of old) F)

pub record Swept (C : Cipher) (old now : Handle) (end size : ℕ) (starts : List ℕ) (next : ℕ) (formed : Bool) : Type 0 where
  pub calm : Calm C old now
  pub size_is : size ≡ old.header.file_size
  pub whole : (F : File) → Holds C old F → IsWholeTo end F
  pub walked : (F : File) → Holds C old F → IsWhole F → Walked (content F) starts next formed
  pub reaches : Reaches C old now end size

-- a read of nothing asks nothing
needs_none : (shape : ℕ → Bool) (f : ℕ → ℕ) (i n : ℕ) → ((k : ℕ) → shape k ≡ false) → sum_where shape f i n ≡ 0
needs_none shape f i zero none = refl
needs_none shape f i (suc n) none = omega (arith, ap (λ (t : Bool). cond t (f i) 0) (none i), needs_none shape f (i + 1) n none)

nothing_asked : (limit : Option ℕ) (F : File) → traffic_by limit F (asks.Read 0 0) ≡ 0
nothing_asked limit F =
    omega (
      arith,
      needs_none (needed F (asks.Read 0 0)) (record_len F.shape F.size) 0 (chunk_count F.shape.chunk_size F.size) none,
      none_summed (record_len F.shape F.size) 0 (chunk_count F.shape.chunk_size F.size),
      ap {B = ℕ} (λ (t : Bool). cond t 0 96) same,
      no_tree limit,
    )
  where
    none : (k : ℕ) → needed F (asks.Read 0 0) k ≡ false
    none k =
        let empty : nat_lt 0 (min (0 + 0) F.size) ≡ false = grind (arith, nat_tests) in
        ap (λ (t : Bool). t && nat_lt (k * F.shape.chunk_size) (min (0 + 0) F.size) && nat_lt 0 (k * F.shape.chunk_size + F.shape.chunk_size)) empty

    same : nat_eq F.size F.size ≡ true
    same = grind (arith, nat_tests)

    no_tree : (limit : Option ℕ) → tree_traffic limit F (asks.Read 0 0) ≡ 0
    no_tree None = refl
    no_tree (Some most) = refl

module _ (C : Cipher) (contents : Contents C) (old now : Handle) where
  size_of : (F : File) → Holds C old F → F.size ≡ old.header.file_size
  size_of F held = ap (λ (f : File). f.size) held.file

  measured : (F : File) → Measures C old F → F.size ≡ old.header.file_size
  measured F (inl held) = size_of F held
  measured F (inr is) = ap (λ (f : File). f.size) is

  still : Looked C old now → (F : File) → Measures C old F → Measures C now F
  still l F (inl held) = inl (holds_on C old now F l held)
  still l F (inr is) = inr (is ∙ ap (outline C) (sym l.header))

  same_limit : Looked C old now → limit_of now ≡ limit_of old
  same_limit l = ap (option_map (λ (t : Tree). t.max_chunks)) l.tree

  pub begins : (size : ℕ) (starts : List ℕ) (next : ℕ) (formed : Bool) → Calm C old now → ReadsAtMost C old now (λ F. traffic_by (limit_of old) F (asks.Read 0 0)) → size ≡ now.header.file_size
      → ((x : List ℕ) → Walked x starts next formed) → Swept C old now 0 size starts next formed
  begins size starts next formed calm asked size_is walked = record {
    calm = calm;
    size_is = size_here;
    whole = λ F held. contents.begins F;
    walked = λ F held whole. walked (content F);
    reaches = record {
      left = size / 1048576 + 1;
      enough = omega (arith, above);
      asked = λ F measures.
          let same : F.size ≡ size = measured F measures ∙ sym size_here in (
            0,
            subst (λ (n : ℕ). Moved old.outside now.outside (file_layout F) n 0 0 0) (nothing_asked (limit_of old) F) (asked F measures),
            (let e : reads_traffic (limit_of old) F (size / 1048576 + 1) 0 ≡ pieces_traffic (limit_of old) F = ap (λ (n : ℕ). reads_traffic (limit_of old) F (n / 1048576 + 1) 0) (sym same) in omega (arith, e)),
          );
    };
  }
    where
      above : size < size / 1048576 * 1048576 + 1048576
      above = let some : 0 < 1048576 = omega arith in lt-div-mul-add some

      size_here : size ≡ old.header.file_size
      size_here = size_is ∙ ap (λ (h : Header). h.file_size) calm.looked.header

  -- no piece was read
  pub asked_first : ReadsAtMost C old now (λ F. traffic_by (limit_of old) F (asks.Read 0 0)) → ReadsAtMost C old now (pieces_traffic (limit_of old))
  asked_first asked = λ F measures.
      moved_less old.outside now.outside _ _ _ _ _ _ _ _ _ _ (asked F measures) (omega arith) (omega (arith, nothing_asked (limit_of old) F)) (omega arith) (omega arith) (omega arith)

  -- what is asked in all is more than what is asked so far
  pub asked_done : (end size : ℕ) → Reaches C old now end size → ReadsAtMost C old now (pieces_traffic (limit_of old))
  asked_done end size r = λ F measures.
      let a = r.asked F measures in
      moved_less old.outside now.outside _ _ _ _ _ _ _ _ _ _ a.1 (omega arith) (omega (arith, a.2)) (omega arith) (omega arith) (omega arith)

  module _ (new : Handle) (end size len : ℕ) (within : end < size) (is : len ≡ min (size - end) 1048576) (size_is : size ≡ old.header.file_size) (looked : Looked C old now)
      (asked : ReadsAtMost C now new (λ F. traffic_by (limit_of now) F (asks.Read end len))) (r : Reaches C old now end size) where
    -- one more piece
    reaches_on : Reaches C old new (end + len) size
    reaches_on = go r.left refl
      where
        go : (n : ℕ) → r.left ≡ n → Reaches C old new (end + len) size
        go zero none = absurd (omega (arith, none, r.enough, within))
        go (suc n) some = record {
          left = n;
          enough = omega (arith, some, r.enough, is, within);
          asked = λ F measures.
              let a = r.asked F measures in
              let same : F.size ≡ size = measured F measures ∙ sym size_is in
              let len_is : min 1048576 (F.size - end) ≡ len = omega (arith, same, is) in
              let here : Moved now.outside new.outside (file_layout F) (traffic_by (limit_of old) F (asks.Read end len)) 0 0 0 =
              subst (λ (m : Option ℕ). Moved now.outside new.outside (file_layout F) (traffic_by m F (asks.Read end len)) 0 0 0) (same_limit looked) (asked F (still looked F measures)) in
              let next : reads_traffic (limit_of old) F r.left end ≡ traffic_by (limit_of old) F (asks.Read end len) + reads_traffic (limit_of old) F n (end + len) =
              ap (λ (k : ℕ). reads_traffic (limit_of old) F k end) some
              ∙ ap (λ (k : ℕ). traffic_by (limit_of old) F (asks.Read end k) + reads_traffic (limit_of old) F n (end + k)) len_is in (
                a.0 + traffic_by (limit_of old) F (asks.Read end len),
                moved_less old.outside new.outside _ _ _ _ _ _ _ _ _ _ (moved_then old.outside now.outside new.outside _ _ _ _ _ _ _ _ _ _ a.1 here) (omega arith) (omega arith) (omega arith) (omega arith) (omega arith),
                omega (arith, a.2, next),
              );
        }

    pub asked_on : ReadsAtMost C old new (pieces_traffic (limit_of old))
    asked_on = λ F measures.
        let a = reaches_on.asked F measures in
        moved_less old.outside new.outside _ _ _ _ _ _ _ _ _ _ a.1 (omega arith) (omega (arith, a.2)) (omega arith) (omega arith) (omega arith)

    pub goes_on : (starts : List ℕ) (next : ℕ) (formed : Bool) → Swept C old now end size starts next formed → Passed C now new end len → (starts' : List ℕ) (next' : ℕ) (formed' : Bool)
        → ((F : File) → Holds C old F → IsWhole F → Walked (content F) starts next formed → Walked (content F) starts' next' formed') → Swept C old new (end + len) size starts' next' formed'
    goes_on starts next formed swept passed starts' next' formed' over = record {
      calm = calm_then C old now new swept.calm passed.calm;
      size_is = size_is;
      whole = λ F held.
          contents.goes_on old F held (limit_of now) end end len (swept.whole F held) (omega arith) (omega (arith, within, is, size_is, size_of F held))
          (passed.fine F (holds_on C old now F looked held));
      walked = λ F held whole. over F held whole (swept.walked F held whole);
      reaches = reaches_on;
    }

  -- what a handle shows is what an earlier one showed
  pub shows_on : Looked C old now → (at : ℕ) (bytes : List ℕ) → Shows C old at bytes → Shows C now at bytes
  shows_on l at bytes shows = λ F held whole. shows F (holds_back C old now F l held) whole

  pub shows_back : Looked C old now → (at : ℕ) (bytes : List ℕ) → Shows C now at bytes → Shows C old at bytes
  shows_back l at bytes shows = λ F held whole. shows F (holds_on C old now F l held) whole

  module _ (end size : ℕ) (starts : List ℕ) (next : ℕ) (formed : Bool) (swept : Swept C old now end size starts next formed) (done : end ≡ size) where
    all : (F : File) → Holds C old F → IsWhole F
    all F held = contents.ends old F held (subst (λ (n : ℕ). IsWholeTo n F) (done ∙ swept.size_is ∙ sym (size_of F held)) (swept.whole F held))

    long : (F : File) → (held : Holds C old F) → length (content F) ≡ size
    long F held = contents.long old F held (all F held) ∙ size_of F held ∙ sym swept.size_is

    pub not_formed : formed ≡ false → NotFound C old now log.Format
    not_formed is = record {
      looked = swept.calm.looked;
      why = (swept.calm.unmarked, λ F held. (all F held, subst (λ (t : Bool). Walked (content F) starts next t) is (swept.walked F held (all F held))));
      fault = swept.calm.quiet;
    }

    pub not_ended : formed ≡ true → next ≢ size → size < next + 4 → NotFound C old now log.Format
    not_ended is ne near = record {
      looked = swept.calm.looked;
      why = (
        swept.calm.unmarked,
        λ F held. (
          all F held,
          ends_short (content F) starts next (subst (λ (t : Bool). Walked (content F) starts next t) is (swept.walked F held (all F held))) (λ e. ne (e ∙ long F held)) (omega (arith, long F held, near)),
        ),
      );
      fault = swept.calm.quiet;
    }

    pub found_all : formed ≡ true → next ≡ size → FoundAll C old now starts
    found_all is ended = record {
      calm = swept.calm;
      log = λ F held.
          let f : Found (content F) 0 starts next = walks_found (content F) 0 starts next (subst (λ (t : Bool). Walked (content F) starts next t) is (swept.walked F held (all F held))) in (
            f.entries,
            record {
              whole = all F held;
              entries = (f.are, f.split ∙ ap (λ (l : List ℕ). spell f.entries ++ l) (drop_all next (content F) (omega (arith, ended, long F held))) ∙ append-nil (spell f.entries));
            },
            f.starts,
          );
    }

-- an open log, from what was found
pub opened : (C : Cipher) (old new : Handle) (starts : List ℕ) (spare : ℕ) → FoundAll C old new starts → Spaced 0 starts new.header.file_size → ReadsAtMost C old new (pieces_traffic (limit_of old))
    → LogOpened C old (log_handle new starts spare)
opened C old new starts spare f spaced asked = record {
  looked = f.calm.looked;
  unmarked = f.calm.unmarked;
  quiet = f.calm.quiet;
  log = λ F held. let l = f.log F held in (l.0, record { holds = holds_on C old new F f.calm.looked held; is_log = l.1; starts = l.2 });
  spaced = spaced;
  asked = asked;
}

pub not_opened : (C : Cipher) (old new : Handle) (kind : LogErrorKind) → NotFound C old new kind → ReadsAtMost C old new (pieces_traffic (limit_of old)) → LogNotOpened C old new kind
not_opened C old new kind n asked = record { looked = n.looked; why = n.why; fault = n.fault; asked = asked }
