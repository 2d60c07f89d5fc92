-- How storage, random source and hasher move over several calls.
use Rattle.std.proofs.Common.{◌≡◌, ℕ, ◌+◌, ◌-◌, ◌≤◌, max, List, [], ◌++◌, Option, Some, None, refl, sym, ◌∙◌, subst, ap, arith, append_assoc}
use Rattle.counts.specs.Counts.{Rose}
use Rattle.raf_io.specs.Source.{Takes}
use Rattle.raf.specs.Outside.{Outside, Kept, Quiet, Caused, Moved}
use Rattle.raf.specs.Loaded.{Unopened}
use Rattle.raf_io.specs.declared.errors.ErrorKind.{ErrorKind}
use Rattle.raf_io.specs.declared.errors.ErrorKind.TheVariants.{Io, InvalidArgument, AuthenticationFailed, AlreadyExists, NotFound, Overflow, MerkleNotEnabled, CorruptedChunk, Rng, Hash, Broken, OutOfMemory}

pub moved_same : (a b : Outside) → b ≡ a → Moved a b 0 0 0 0 0
moved_same a b same = subst (λ (x : Outside). Moved a x 0 0 0 0 0) (sym same) (record {
  exact = refl;
  setting = refl;
  io_later = omega arith;
  rng_later = omega arith;
  hash_later = omega arith;
  reach_later = omega arith;
  reach_most = omega arith;
  traffic_later = omega arith;
  traffic_most = omega arith;
  asked_later = omega arith;
  asked_most = omega arith;
  changes_later = omega arith;
  changes_most = omega arith;
  calls_later = omega arith;
  calls_most = omega arith;
  strays_later = omega arith;
})

pub moved_less : (a b : Outside) (end traffic asked changes calls end' traffic' asked' changes' calls' : ℕ) → Moved a b end traffic asked changes calls
    → end ≤ end' → traffic ≤ traffic' → asked ≤ asked' → changes ≤ changes' → calls ≤ calls' → Moved a b end' traffic' asked' changes' calls'
moved_less a b end traffic asked changes calls end' traffic' asked' changes' calls' m e t q w c = record {
  exact = m.exact;
  setting = m.setting;
  io_later = m.io_later;
  rng_later = m.rng_later;
  hash_later = m.hash_later;
  reach_later = m.reach_later;
  reach_most = omega (arith, m.reach_most);
  traffic_later = m.traffic_later;
  traffic_most = omega (arith, m.traffic_most);
  asked_later = m.asked_later;
  asked_most = omega (arith, m.asked_most);
  changes_later = m.changes_later;
  changes_most = omega (arith, m.changes_most);
  calls_later = m.calls_later;
  calls_most = omega (arith, m.calls_most);
  strays_later = m.strays_later;
}

pub moved_then : (a b c : Outside) (end traffic asked changes calls end' traffic' asked' changes' calls' : ℕ)
    → Moved a b end traffic asked changes calls → Moved b c end' traffic' asked' changes' calls'
    → Moved a c (max end end') (traffic + traffic') (asked + asked') (changes + changes') (calls + calls')
moved_then a b c end traffic asked changes calls end' traffic' asked' changes' calls' m n = record {
  exact = n.exact ∙ m.exact;
  setting = n.setting ∙ m.setting;
  io_later = omega (arith, m.io_later, n.io_later);
  rng_later = omega (arith, m.rng_later, n.rng_later);
  hash_later = omega (arith, m.hash_later, n.hash_later);
  reach_later = omega (arith, m.reach_later, n.reach_later);
  reach_most = omega (arith, m.reach_most, n.reach_most);
  traffic_later = omega (arith, m.traffic_later, n.traffic_later);
  traffic_most = omega (arith, m.traffic_most, n.traffic_most);
  asked_later = omega (arith, m.asked_later, n.asked_later);
  asked_most = omega (arith, m.asked_most, n.asked_most);
  changes_later = omega (arith, m.changes_later, n.changes_later);
  changes_most = omega (arith, m.changes_most, n.changes_most);
  calls_later = omega (arith, m.calls_later, n.calls_later);
  calls_most = omega (arith, m.calls_most, n.calls_most);
  strays_later = omega (arith, m.strays_later, n.strays_later);
}

pub quiet_then : (a b c : Outside) → Quiet a b → Quiet b c → Quiet a c
quiet_then a b c p q = record { io = q.io ∙ p.io; rng = q.rng ∙ p.rng; hash = q.hash ∙ p.hash }

pub quiet_same : (a b : Outside) → b ≡ a → Quiet a b
quiet_same a b same = record {
  io = ap (λ (x : Outside). x.io_faults) same;
  rng = ap (λ (x : Outside). x.rng_faults) same;
  hash = ap (λ (x : Outside). x.hash_faults) same;
}

pub kept_then : (a b c : Outside) → Kept a b → Kept b c → Kept a c
kept_then a b c p q = record { bytes = q.bytes ∙ p.bytes; durable = q.durable ∙ p.durable; left = q.left ∙ p.left }

pub kept_same : (a b : Outside) → b ≡ a → Kept a b
kept_same a b same = record {
  bytes = ap (λ (x : Outside). x.bytes) same;
  durable = ap (λ (x : Outside). x.durable) same;
  left = ap (λ (x : Outside). x.left) same;
}

-- a fault after calls that had none
pub caused_later : (kind : ErrorKind) (a b c : Outside) → Quiet a b → Caused kind b c → Caused kind a c
caused_later Io a b c q f = (subst (λ (n : ℕ). Rose n c.io_faults) q.io f.0, f.1 ∙ q.rng, f.2 ∙ q.hash)
caused_later Rng a b c q f = (subst (λ (n : ℕ). Rose n c.rng_faults) q.rng f.0, f.1 ∙ q.io, f.2 ∙ q.hash)
caused_later Hash a b c q f = (subst (λ (n : ℕ). Rose n c.hash_faults) q.hash f.0, f.1 ∙ q.io, f.2 ∙ q.rng)
caused_later (InvalidArgument r) a b c q f = absurd f
caused_later AuthenticationFailed a b c q f = absurd f
caused_later AlreadyExists a b c q f = absurd f
caused_later NotFound a b c q f = absurd f
caused_later Overflow a b c q f = absurd f
caused_later MerkleNotEnabled a b c q f = absurd f
caused_later (CorruptedChunk i) a b c q f = absurd f
caused_later Broken a b c q f = absurd f
caused_later OutOfMemory a b c q f = absurd f

pub unopened_io : (kind : ErrorKind) (old new : Outside) → (kind ≡ Io) × Caused Io old new → Unopened kind old new
unopened_io kind old new why = subst (λ (k : ErrorKind). Unopened k old new) (sym why.0) why.1

-- a chunk that wasn't opened after calls that had no fault
pub unopened_later : (kind : ErrorKind) (a b c : Outside) → Quiet a b → Unopened kind b c → Unopened kind a c
unopened_later Io a b c q f = caused_later Io a b c q f
unopened_later AuthenticationFailed a b c q f = quiet_then a b c q f
unopened_later Rng a b c q f = absurd f
unopened_later Hash a b c q f = absurd f
unopened_later (InvalidArgument r) a b c q f = absurd f
unopened_later AlreadyExists a b c q f = absurd f
unopened_later NotFound a b c q f = absurd f
unopened_later Overflow a b c q f = absurd f
unopened_later MerkleNotEnabled a b c q f = absurd f
unopened_later (CorruptedChunk i) a b c q f = absurd f
unopened_later Broken a b c q f = absurd f
unopened_later OutOfMemory a b c q f = absurd f

-- nothing is taken
pub takes_none : (left : Option (List ℕ)) → Takes left [] left
takes_none None = tt
takes_none (Some l) = refl

-- nothing was asked, so no more than anything
pub moved_any : (a b : Outside) (end traffic asked changes calls : ℕ) → Moved a b 0 0 0 0 0 → Moved a b end traffic asked changes calls
moved_any a b end traffic asked changes calls m = moved_less a b 0 0 0 0 0 end traffic asked changes calls m (omega arith) (omega arith) (omega arith) (omega arith) (omega arith)

-- one piece after another
pub takes_then : (a b c : Option (List ℕ)) (xs ys : List ℕ) → Takes a xs b → Takes b ys c → Takes a (xs ++ ys) c
takes_then None None None xs ys t u = tt
takes_then None None (Some z) xs ys t u = absurd u
takes_then None (Some y) c xs ys t u = absurd t
takes_then (Some x) None c xs ys t u = absurd t
takes_then (Some x) (Some y) None xs ys t u = absurd u
takes_then (Some x) (Some y) (Some z) xs ys t u = t ∙ ap (λ (l : List ℕ). xs ++ l) u ∙ sym (append_assoc xs ys z)

-- the hashes that were asked, counted
pub moved_counted : (a b : Outside) (end traffic asked changes calls : ℕ) → Moved a b end traffic asked changes calls → Moved a b end traffic asked changes (b.calls - a.calls)
moved_counted a b end traffic asked changes calls m = record {
  exact = m.exact;
  setting = m.setting;
  io_later = m.io_later;
  rng_later = m.rng_later;
  hash_later = m.hash_later;
  reach_later = m.reach_later;
  reach_most = m.reach_most;
  traffic_later = m.traffic_later;
  traffic_most = m.traffic_most;
  asked_later = m.asked_later;
  asked_most = m.asked_most;
  changes_later = m.changes_later;
  changes_most = m.changes_most;
  calls_later = m.calls_later;
  calls_most = omega (arith, m.calls_later);
  strays_later = m.strays_later;
}

-- whatever was asked of storage and hasher, nothing else was
pub moved_later : (a b : Outside) (end traffic asked changes calls : ℕ) → Moved a b end traffic asked changes calls → Moved a b b.reach b.traffic asked changes b.calls
moved_later a b end traffic asked changes calls m = record {
  exact = m.exact;
  setting = m.setting;
  io_later = m.io_later;
  rng_later = m.rng_later;
  hash_later = m.hash_later;
  reach_later = m.reach_later;
  reach_most = omega arith;
  traffic_later = m.traffic_later;
  traffic_most = omega arith;
  asked_later = m.asked_later;
  asked_most = m.asked_most;
  changes_later = m.changes_later;
  changes_most = m.changes_most;
  calls_later = m.calls_later;
  calls_most = omega arith;
  strays_later = m.strays_later;
}

pub moved_all : (a b : Outside) (end traffic asked changes calls : ℕ) → Moved a b end traffic asked changes calls → Moved a b b.reach b.traffic b.asked b.changes b.calls
moved_all a b end traffic asked changes calls m = record {
  exact = m.exact;
  setting = m.setting;
  io_later = m.io_later;
  rng_later = m.rng_later;
  hash_later = m.hash_later;
  reach_later = m.reach_later;
  reach_most = omega arith;
  traffic_later = m.traffic_later;
  traffic_most = omega arith;
  asked_later = m.asked_later;
  asked_most = omega arith;
  changes_later = m.changes_later;
  changes_most = omega arith;
  calls_later = m.calls_later;
  calls_most = omega arith;
  strays_later = m.strays_later;
}
