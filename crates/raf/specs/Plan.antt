-- How a change is planned: the chunks that it touches and removes, and what is kept of the old ones (this project's own).
use Rattle.std.specs.Prelude.{◌≡◌, ◌≢◌, ℕ, ◌+◌, ◌-◌, ◌*◌, ◌/◌, ◌^◌, ◌<◌, ◌≤◌, min, ◌&&◌, not, if◌then◌else◌, nat_lt, nat_le, List, length}
use Rattle.raf_format.specs.File.{Shape, chunk_count, layout_len}
use Rattle.raf.specs.Change.{Change}
use Rattle.raf.specs.declared.planning.Plan.{Plan}

-- the plan of a change to a file of this many bytes: its range in chunks, and the chunks that it removes
abbrev pub plan_of : Shape → ℕ → Change → Plan
plan_of s before K = record {
  before = before;
  size = K.size;
  first = K.from / s.chunk_size;
  end = chunk_count s.chunk_size K.end;
  until = if nat_lt K.size before then chunk_count s.chunk_size before else chunk_count s.chunk_size K.end;
  count = chunk_count s.chunk_size K.size;
  offset = K.offset;
  layout = layout_len s K.size;
}

-- the chunks from one index up to another are touched by a change from one size to another, and all others of both are as long as before
pub record Spans (chunk_size before size first end : ℕ) : Type 0 where
  pub order : first ≤ end
  pub below : end ≤ chunk_count chunk_size size
  pub in_old : first * chunk_size ≤ before
  pub in_new : first * chunk_size ≤ size
  pub whole : size ≢ before → end ≡ chunk_count chunk_size size

-- how many bytes of an old chunk are kept: none where it has none below both sizes, or the data covers those
abbrev pub kept_len : ℕ → Plan → ℕ → ℕ → ℕ
kept_len chunk_size p len index =
    let start = index * chunk_size in
    let stop = min (start + chunk_size) (min p.before p.size) in
    if nat_lt start stop && not (nat_le p.offset start && nat_le stop (p.offset + len)) then stop - start else 0

-- the numbers of a plan for this much data fit, and of the chunks between the first and the last that it touches nothing is kept
pub record Planned (s : Shape) (p : Plan) (len : ℕ) : Type 0 where
  pub least : 16 ≤ s.chunk_size
  pub most : s.chunk_size ≤ 1048576
  pub spans : Spans s.chunk_size p.before p.size p.first p.end
  pub old_fits : layout_len s p.before < 2 ^ 64
  pub new_fits : layout_len s p.size < 2 ^ 64
  pub layout : p.layout ≡ layout_len s p.size
  pub count : p.count ≡ chunk_count s.chunk_size p.size
  pub until : p.until ≡ (if nat_lt p.size p.before then chunk_count s.chunk_size p.before else p.end)
  pub some : p.first < p.until
  pub data_fits : p.offset + len < 2 ^ 64
  pub covered : (i : ℕ) → p.first < i → i + 1 < p.end → kept_len s.chunk_size p len i ≡ 0

-- the range of a change lies in the new file and begins in the old one, and where it is empty it begins with a chunk
pub record Ranged (chunk_size before : ℕ) (K : Change) : Type 0 where
  pub ends : K.end ≤ K.size
  pub begins : K.from ≤ before
  pub begins_new : K.from ≤ K.size
  pub whole : K.size ≢ before → K.end ≡ K.size
  pub order : K.from ≤ K.end
  pub empty : K.from ≡ K.end → K.from ≡ K.from / chunk_size * chunk_size
  pub some : K.from ≡ K.end → K.size ≢ before
  pub covered : (i : ℕ) → K.from / chunk_size < i → i * chunk_size + chunk_size ≤ K.end → i * chunk_size < before → i * chunk_size < K.size
      → (K.offset ≤ i * chunk_size) × (i * chunk_size + chunk_size ≤ K.offset + length K.bytes)

-- the change of a plan with this data, as far as a chunk sees it
abbrev pub change_by : Plan → List ℕ → Change
change_by p bytes = record { size = p.size; from = 0; end = 0; offset = p.offset; bytes = bytes }
