-- Where the records of a file stand.
use Rattle.std.proofs.Common.{◌≡◌, ℕ, ◌+◌, ◌-◌, ◌*◌, ◌/◌, ◌<◌, ◌≤◌, ◌∙◌, ap, arith}
use Rattle.std.proofs.Math.Nat.{add-div_right, mul-le-mul_left, div-mul-le_self, lt-div-mul-add}
use Rattle.std.proofs.lemmas.Nat.{le-div, div_below}
use Rattle.raf_format.specs.File.{Shape, tag_len, chunk_count, layout_len, record_start, record_len}

-- an index below the count is one of a chunk that begins below the size
pub starts_below : (cs size index : ℕ) → 1 ≤ cs → index < chunk_count cs size → index * cs < size
starts_below cs size index some lt =
    let n = size + cs - 1 in
    let most : n / cs * cs ≤ n = div-mul-le_self n cs in
    let step : cs * (index + 1) ≤ cs * (n / cs) = mul-le-mul_left cs (omega (arith, lt)) in
    omega (arith, most, step)

-- and the other way round
pub counts_below : (cs size index : ℕ) → 1 ≤ cs → index * cs < size → index < chunk_count cs size
counts_below cs size index some lt =
    let n = size + cs - 1 in
    let least : index + 1 ≤ n / cs = le-div (index + 1) n cs some (omega (arith, lt)) in
    omega (arith, least)

-- the record of a chunk lies in the layout
pub within_layout : (s : Shape) (size index : ℕ) → 1 ≤ s.chunk_size → index < chunk_count s.chunk_size size → record_start s index + record_len s size index ≤ layout_len s size
within_layout s size index some lt =
    let cs = s.chunk_size in
    let over = s.nonce_len + tag_len s in
    let below : index * cs < size = starts_below cs size index some lt in
    let step : over * (index + 1) ≤ over * chunk_count cs size = mul-le-mul_left over (omega (arith, lt)) in
    let parts : index * (s.nonce_len + cs + tag_len s) ≡ index * cs + over * index = omega arith in
    let all : chunk_count cs size * over ≡ over * chunk_count cs size = omega arith in
    let one : over * (index + 1) ≡ over * index + over = omega arith in
    omega (arith, below, step, parts, all, one)

-- the chunks from that of the first position up to that of the last one meet the range
pub meets_range : (cs offset len index : ℕ) → 1 ≤ cs → 0 < len → offset / cs ≤ index → index < (offset + len - 1) / cs + 1 → (index * cs < offset + len) × (offset < (index + 1) * cs)
meets_range cs offset len index some had least most =
    let last = offset + len - 1 in
    let below : last / cs * cs ≤ last = div-mul-le_self last cs in
    let up : cs * index ≤ cs * (last / cs) = mul-le-mul_left cs (omega (arith, most)) in
    let above : offset < offset / cs * cs + cs = lt-div-mul-add some in
    let down : cs * (offset / cs) ≤ cs * index = mul-le-mul_left cs least in
    let next : (index + 1) * cs ≡ index * cs + cs = omega arith in (
      omega (arith, below, up, had),
      omega (arith, above, down, next),
    )

-- the count of chunks, by a division that doesn't pass the size
pub count_none : (cs : ℕ) → 1 ≤ cs → chunk_count cs 0 ≡ 0
count_none cs some = let below = div_below (0 + cs - 1) cs 1 (omega (arith, some)) (omega (arith, some)) in omega (arith, below)

pub count_some : (cs size : ℕ) → 1 ≤ cs → 0 < size → chunk_count cs size ≡ (size - 1) / cs + 1
count_some cs size some had =
    let n : size + cs - 1 ≡ size - 1 + cs = omega (arith, some, had) in
    ap (λ (k : ℕ). k / cs) n ∙ add-div_right (size - 1) {k = cs} some
