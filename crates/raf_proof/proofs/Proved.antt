-- What a proof of a chunk says, and that it is accepted.
use Rattle.std.proofs.Common.{◌≡◌, ℕ, ◌+◌, ◌-◌, ◌*◌, ◌^◌, ◌<◌, ◌≤◌, ◌↔◌, true, false, inl, inr, List, [], length, get_or, map, take, Option, Some, None, is_some, Result, Ok, Err, IfOk, IfErr, OnOk, refl, sym, ap, subst, ◌∙◌, arith}
use Rattle.std.specs.Option.{unwrap_or, option_map}
use Rattle.std.proofs.lemmas.List.{length-map}
use Rattle.std.proofs.lemmas.Bool.{false≢true}
use Rattle.counts.specs.Counts.{Rose}
use Rattle.raf_tree.specs.Hashing.{Hashing}
use Rattle.raf_tree.specs.Kept.{Kept, Keeps, IsKept, tree_height}
use Rattle.raf_tree.specs.Tree.{leaves, node, commitment}
use Rattle.raf_tree.specs.Made.{IsHashLen, IsSized}
use Rattle.raf_io.specs.Kinds.{kind_of}
use Rattle.raf_io.specs.declared.errors.Error.{Error}
use Rattle.raf_io.specs.declared.errors.ErrorKind.{ErrorKind}
use Rattle.raf_io.specs.declared.errors.ErrorKind.TheVariants as kind
use Rattle.raf_io.specs.declared.errors.Reason.TheVariants as reason
use Rattle.raf_format.specs.Cipher.{Cipher}
use Rattle.raf_format.specs.File.{File, chunk_count, file_of}
use Rattle.raf_format.specs.Laws.{AreLawful}
use Rattle.raf_format.specs.declared.header.Header.{Header}
use Rattle.raf.specs.Handle.{Handle, Holds, Grown, Paired, HasRoom, OfTree, WithTree}
use Rattle.raf.specs.Given.{IsPlace, OnlyAsked, WhyNoNode, IsNodeOf, Given}
use Rattle.raf_check.specs.Claim.{Claim, claim_of}
use Rattle.raf_check.specs.Binding.{Accepted, CanBeChecked}
use Rattle.raf_check.specs.Siblings.{SiblingsTo, HonestProofs}
use Rattle.raf_proof.specs.Proving.{WhyNoProof, Tells, Proves, Ready, Gathered, Ungathered}
use Rattle.raf_proof.proofs.Handles.{at_tree, of_tree, same_tree, same_setting, paired_len, only_asked_then, only_asked_less, only_asked_none, only_asked_exact}

-- the height and the length of a hash, as they are told
abbrev pub tall : Handle → ℕ
tall h = unwrap_or (option_map tree_height h.tree) 0

pub tall_is : (h : Handle) (t : Kept) → h.tree ≡ Some t → tall h ≡ tree_height t
tall_is h t is = ap (λ (o : Option Kept). unwrap_or (option_map tree_height o) 0) is

-- a proof of the same parts
pub same_claim : (p : Claim) (index size size' height : ℕ) (id id' siblings siblings' : List ℕ) → size ≡ size' → id ≡ id' → siblings ≡ siblings'
    → p ≡ claim_of index size id height siblings → p ≡ claim_of index size' id' height siblings'
same_claim p index size size' height id id' siblings siblings' a b d is =
    is ∙ ap (λ (n : ℕ). claim_of index n id height siblings) a ∙ ap (λ (i : List ℕ). claim_of index size' i height siblings) b ∙ ap (λ (s : List ℕ). claim_of index size' id' height s) d

module _ (E : List ℕ → Hashing) (index : ℕ) (old mid : Handle) (height len : ℕ) (told : height ≡ tall old) (room : len ≡ unwrap_or (option_map (λ (s : List ℕ). (E s).len) old.outside.setting) 0)
    (paired : Paired E old.outside.setting old.tree) (sized : (t : Kept) → old.tree ≡ Some t → IsSized t) where
  -- the root is in the tree, and kept
  pub root_place : (t : Kept) → old.tree ≡ Some t → IsPlace t height 0
  root_place t is =
      let e : height ≡ tree_height t = told ∙ tall_is old t is in
      let back : tree_height t - height ≡ 0 = omega arith in
      (omega arith, subst (λ (k : ℕ). 0 < 2 ^ k) (sym back) (omega arith))

  root_kept : (t : Kept) → old.tree ≡ Some t → IsKept t height 0
  root_kept t is = let e : height ≡ tree_height t = told ∙ tall_is old t is in (omega arith, inr (e, refl))

  -- why the root isn't given
  pub why_no_root : (k : ErrorKind) → WhyNoNode E 64 height 0 old mid k → WhyNoProof old mid k
  why_no_root kind.Broken why = why
  why_no_root kind.MerkleNotEnabled why = why
  why_no_root (kind.InvalidArgument reason.CommitmentBuffer) why =
      let o = why.1 in
      let short : 64 < (E o.0).len = o.4 in
      let e = paired_len E old.outside.setting old.tree o.0 o.1 paired o.2 o.3 in
      absurd (omega (arith, short, e, (sized o.1 o.3).len.1))
  why_no_root kind.Hash why = let o = why.1 in absurd (o.4.1 (root_kept o.1 o.3))
  why_no_root _ why = absurd why

  -- and then nothing was asked
  unmoved : (k : ErrorKind) → WhyNoNode E 64 height 0 old mid k → mid ≡ old
  unmoved kind.Broken why = why.1
  unmoved kind.MerkleNotEnabled why = why.2
  unmoved (kind.InvalidArgument reason.CommitmentBuffer) why = why.2
  unmoved kind.Hash why = let o = why.1 in absurd (o.4.1 (root_kept o.1 o.3))
  unmoved _ why = absurd why

  module _ (bytes bytes' : List ℕ) (given : Given E height 0 old mid bytes bytes' (Ok tt)) where
    abbrev o : OfTree E old (λ H t. (H.len ≤ length bytes) × IsNodeOf H t height 0 (take H.len bytes'))
    o = given.given.1

    pub nothing_asked : OnlyAsked 0 old mid
    nothing_asked = only_asked_exact 1 0 old mid (omega (arith, given.kept o.0 o.1 o.2 o.3 (root_kept o.1 o.3))) given.asked

    pub answered : (old.broken ≡ false) × (is_some old.tree ≡ true)
    answered = (given.given.0, ap (λ (x : Option Kept). is_some x) o.3)

    -- all is ready
    pub ready : (count : ℕ) → HasRoom count mid.tree → index < count → OfTree E mid (Ready height len index)
    ready count fits low = (
      o.0,
      o.1,
      same_setting 0 old mid nothing_asked ∙ o.2,
      same_tree 0 old mid nothing_asked ∙ o.3,
      record {
        is_height = is;
        low = omega (arith, is, s.low);
        is_len = width;
        bounds = (omega (arith, width, e, s.len.0), omega (arith, width, e, s.len.1));
        inside = subst (λ (k : ℕ). index < 2 ^ k) (sym is) (omega (arith, s.fits, fits o.1 (same_tree 0 old mid nothing_asked ∙ o.3)));
      },
    )
      where
        is : height ≡ tree_height o.1
        is = told ∙ tall_is old o.1 o.3

        s : IsSized o.1
        s = sized o.1 o.3

        e : (E o.0).len ≡ o.1.hash_len
        e = paired_len E old.outside.setting old.tree o.0 o.1 paired o.2 o.3

        width : len ≡ (E o.0).len
        width = room ∙ ap (λ (x : Option (List ℕ)). unwrap_or (option_map (λ (s : List ℕ). (E s).len) x) 0) o.2

    -- the header stays
    pub same_header : (new : Handle) → OnlyAsked height mid new → new.header ≡ old.header
    same_header new asked = ap (λ (h : Handle). h.header) (only_asked_then 0 height old mid new nothing_asked asked).same

    pub counted : (count : ℕ) → count ≡ chunk_count mid.header.chunk_size mid.header.file_size → count ≡ chunk_count old.header.chunk_size old.header.file_size
    counted count is = is ∙ ap (λ (h : Handle). chunk_count h.header.chunk_size h.header.file_size) nothing_asked.same

    -- no such chunk
    pub none_proved : (C : Cipher) → chunk_count old.header.chunk_size old.header.file_size ≤ index → Proves C E index old mid (Ok None)
    none_proved C past = record {
      refused = tt;
      answered = answered;
      some = (λ e. absurd (false≢true e), λ low. absurd (omega arith));
      tells = λ p (e : None ≡ Some p). absurd cc;
      accepted = λ p F holds (e : None ≡ Some p). absurd cc;
      asked = only_asked_less 0 (tall old) old mid (omega arith) nothing_asked;
      quiet = given.quiet;
    }

    -- a proof
    pub some_proved : (C : Cipher) (new : Handle) (siblings : List ℕ) (p : Claim) → ((H : Hashing) → HonestProofs H) → AreLawful C → index < chunk_count old.header.chunk_size old.header.file_size → OfTree E mid (Ready height len index)
        → OnlyAsked height mid new → Gathered E index len height mid new siblings → p ≡ record { index = index; size = old.header.file_size; id = old.header.id; height = height; siblings = siblings }
        → Proves C E index old new (Ok (Some p))
    some_proved C new siblings p honest lawful low all asked gathered is = record {
      refused = tt;
      answered = answered;
      some = (λ _. low, λ _. refl);
      tells = λ q (e : Some p ≡ Some q). let same : p ≡ q = cc in (o.0, o.1, o.2, o.3, subst (λ (c : Claim). Tells old index c (E o.0) o.1) (sym is ∙ same) tells);
      accepted = λ q F holds (e : Some p ≡ Some q) setting t set tree grown. let same : p ≡ q = cc in
          subst (λ (c : Claim). Accepted (E setting) (commitment (E setting) t.max_chunks grown.chunks F.id F.size) (get_or grown.chunks index []) c) (sym is ∙ same) (accepted F holds setting t set tree grown);
      asked = only_asked_less (0 + height) (tall old) old new (omega (arith, told)) (only_asked_then 0 height old mid new nothing_asked asked);
      quiet = gathered.quiet ∙ given.quiet;
    }
      where
        claim : Claim
        claim = record { index = index; size = old.header.file_size; id = old.header.id; height = height; siblings = siblings }

        ready_at : (setting : List ℕ) (t : Kept) → old.outside.setting ≡ Some setting → old.tree ≡ Some t → Ready height len index (E setting) t
        ready_at setting t set tree = at_tree E mid (Ready height len index) setting t all (same_setting 0 old mid nothing_asked ∙ set) (same_tree 0 old mid nothing_asked ∙ tree)

        tells : Tells old index claim (E o.0) o.1
        tells = let r = ready_at o.0 o.1 o.2 o.3 in record {
          index = refl;
          size = refl;
          id = refl;
          height = r.is_height;
          can = record { tall = omega (arith, r.low); inside = r.inside; long = gathered.long ∙ ap (λ (k : ℕ). height * k) r.is_len };
        }

        accepted : (F : File) → Holds C old F → WithTree E old (λ H t. (grown : Grown F H t) → Accepted H (commitment H t.max_chunks grown.chunks F.id F.size) (get_or grown.chunks index []) claim)
        accepted F holds setting t set tree grown =
            let r = ready_at setting t set tree in
            let op = lawful.opens old.key holds.bytes old.header holds.is_file in
            let one : op.header ≡ old.header = lawful.one_header holds.bytes op.header old.header op.is_file.says holds.is_file.says in
            let count : length grown.chunks ≡ chunk_count old.header.chunk_size old.header.file_size =
            sym (length-map grown.chunks (λ (m : List ℕ). Some m)) ∙ ap length (sym grown.present) ∙ ap (λ (G : File). length G.chunks) holds.file ∙ op.count ∙ ap (λ (k : Header). chunk_count k.chunk_size k.file_size) one in
            let right : SiblingsTo (E setting) grown.chunks index height siblings = gathered.right setting t (same_setting 0 old mid nothing_asked ∙ set) (same_tree 0 old mid nothing_asked ∙ tree) grown.chunks grown.keeps in
            let id : F.id ≡ old.header.id = ap (λ (G : File). G.id) holds.file in
            let size : F.size ≡ old.header.file_size = ap (λ (G : File). G.size) holds.file in
            honest (E setting) (record { max_chunks = t.max_chunks; chunks = grown.chunks; context = F.id; size = F.size }) (get_or grown.chunks index []) claim
            (record { member = (omega (arith, count), refl); same_id = sym id; same_size = sym size }) r.is_height r.inside right

    -- or not
    pub not_proved : (C : Cipher) (new : Handle) (e : Error) → OnlyAsked height mid new → Ungathered mid new (kind_of e) → Proves C E index old new (Err e)
    not_proved C new e asked why = record {
      refused = go (kind_of e) why;
      answered = tt;
      some = tt;
      tells = λ p. tt;
      accepted = λ p F holds. tt;
      asked = only_asked_less (0 + height) (tall old) old new (omega (arith, told)) (only_asked_then 0 height old mid new nothing_asked asked);
      quiet = tt;
    }
      where
        go : (k : ErrorKind) → Ungathered mid new k → WhyNoProof old new k
        go kind.Hash why = (answered.0, answered.1, subst (λ (n : ℕ). Rose n new.outside.hash_faults) given.quiet why)
        go kind.OutOfMemory why = answered
        go _ why = absurd why

  pub no_root : (C : Cipher) (bytes bytes' : List ℕ) (e : Error) → length bytes ≡ 64 → Given E height 0 old mid bytes bytes' (Err e) → Proves C E index old mid (Err e)
  no_root C bytes bytes' e size given =
      let why : WhyNoNode E 64 height 0 old mid (kind_of e) = subst (λ (n : ℕ). WhyNoNode E n height 0 old mid (kind_of e)) size given.refused in
      record {
        refused = why_no_root (kind_of e) why;
        answered = tt;
        some = tt;
        tells = λ p. tt;
        accepted = λ p F holds. tt;
        asked = subst (λ (h : Handle). OnlyAsked (tall old) old h) (sym (unmoved (kind_of e) why)) (only_asked_less 0 (tall old) old old (omega arith) (only_asked_none old));
        quiet = tt;
      }
