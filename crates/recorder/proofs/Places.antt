-- The damaged places of a trace: they rise, they are places of blocks, and one changed byte adds the place of its block and no other.
use mathlib.Core.Path.{◌≡◌, refl, ap, ◌∙◌}
use mathlib.Core.Logic.{◌≢◌}
use mathlib.Core.Bool.{Bool, true, false, cond}
use mathlib.Core.List.{List, [], ◌∷◌, ◌++◌}
use Prim.Native.Nat.{ℕ, zero, suc, ◌+◌, ◌*◌, ◌/◌, ◌<◌}
use native.Mathlib.Nat.{add-zero}
use native.Mathlib.Omega.{arith}
use borrow.Author.Tests.{lt-ltb}
use lib.ListN.{length, get_or, set, take, drop, length-set, length-drop}
use lib.Seq.{get_or-set_same, get_or-set_other, take-set-le, take-set-lt, drop-set-lt, drop-set-add, get_or-take, get_or-drop, length-take-le}
use Rattle.rules.specs.Ordered.{by_number, rises}
use Rattle.trace_blocks.specs.Blocks.{is_sound}
use Rattle.recorder.specs.Traces.{blocks_in, blocks_of, gathered, damage_at, damaged_places}
use Rattle.recorder.proofs.Traces.{length_blocks, block_in}
use Rattle.recorder.proofs.OneByte.{one_byte}

-- ---- they rise

rises_behind : (j k : ℕ) (bs : List (List ℕ)) → j < k → rises by_number (j ∷ gathered damage_at k bs) ≡ true
unfolding gathered
rises_behind j k [] h = refl
rises_behind j k (b ∷ bs) h = go (is_sound k b) (rises_behind j (suc k) bs (omega arith)) (rises_behind k (suc k) bs (omega arith))
  where
    go : (t : Bool) → rises by_number (j ∷ gathered damage_at (suc k) bs) ≡ true → rises by_number (k ∷ gathered damage_at (suc k) bs) ≡ true
        → rises by_number (j ∷ (cond t [] (k ∷ []) ++ gathered damage_at (suc k) bs)) ≡ true
    go true e f = e
    go false e f = rw (lt-ltb j k h) f

rises_from : (k : ℕ) (bs : List (List ℕ)) → rises by_number (gathered damage_at k bs) ≡ true
unfolding gathered
rises_from k [] = refl
rises_from k (b ∷ bs) = go (is_sound k b) (rises_from (suc k) bs) (rises_behind k (suc k) bs (omega arith))
  where
    go : (t : Bool) → rises by_number (gathered damage_at (suc k) bs) ≡ true → rises by_number (k ∷ gathered damage_at (suc k) bs) ≡ true
        → rises by_number (cond t [] (k ∷ []) ++ gathered damage_at (suc k) bs) ≡ true
    go true e f = e
    go false e f = f

pub places_rise : (trace : List ℕ) → rises by_number (damaged_places trace) ≡ true
unfolding damaged_places
places_rise trace = rises_from 0 (blocks_of trace)

-- ---- one byte changed

-- byte q of a trace is byte q % 512 of its block q / 512
blocks_set : (n : ℕ) (trace : List ℕ) (j p v : ℕ) → p < 512 → blocks_in n (set trace (j * 512 + p) v) ≡ set (blocks_in n trace) j (set (get_or (blocks_in n trace) j []) p v)
unfolding blocks_in
blocks_set zero trace zero p v h = refl
blocks_set zero trace (suc j) p v h = refl
blocks_set (suc n) trace zero p v h =
    let m : ℕ = 512 in
    let at : 0 * 512 + p ≡ p = omega arith in
    let front : take m (set trace p v) ≡ set (take m trace) p v = take-set-lt m trace p v h in
    let rest : drop m (set trace p v) ≡ drop m trace = drop-set-lt m trace p v h in
    rw (at, front, rest)
blocks_set (suc n) trace (suc j) p v h =
    let m : ℕ = 512 in
    let at : suc j * 512 + p ≡ 512 + (j * 512 + p) = omega arith in
    let front : take m (set trace (m + (j * 512 + p)) v) ≡ take m trace = take-set-le m trace (m + (j * 512 + p)) v (omega arith) in
    let rest : drop m (set trace (m + (j * 512 + p)) v) ≡ set (drop m trace) (j * 512 + p) v = drop-set-add m trace (j * 512 + p) v in
    rw (at, front, rest) (ap (λ (bs : List (List ℕ)). take m trace ∷ bs) (blocks_set n (drop m trace) j p v h))

none_behind : (xs ys : List ℕ) → xs ++ ys ≡ [] → (xs ≡ []) × (ys ≡ [])
none_behind [] ys e = (refl, e)
none_behind (x ∷ xs) ys e = absurd (omega (arith, ap length e))

sound_here : (k : ℕ) (b : List ℕ) → damage_at k b ≡ [] → is_sound k b ≡ true
sound_here k b e = go (is_sound k b) e
  where
    go : (t : Bool) → cond t [] (k ∷ []) ≡ [] → t ≡ true
    go true q = refl
    go false q = absurd (omega (arith, ap length q))

none_next : (k : ℕ) (b : List ℕ) (bs : List (List ℕ)) → gathered damage_at k (b ∷ bs) ≡ [] → (damage_at k b ≡ []) × (gathered damage_at (suc k) bs ≡ [])
unfolding gathered
none_next k b bs e = none_behind (damage_at k b) (gathered damage_at (suc k) bs) e

-- where no block is damaged, each is sound; with another, damaged one at place j that place is all there is
sound_at : (k : ℕ) (bs : List (List ℕ)) (j : ℕ) → gathered damage_at k bs ≡ [] → j < length bs → is_sound (k + j) (get_or bs j []) ≡ true
sound_at k [] j e h = absurd (omega arith)
sound_at k (b ∷ bs) zero e h = rw (add-zero k) (sound_here k b (none_next k b bs e).0)
sound_at k (b ∷ bs) (suc j) e h =
    let same : k + suc j ≡ suc k + j = omega arith in
    rw same (sound_at (suc k) bs j (none_next k b bs e).1 (omega arith))

only_there : (k : ℕ) (bs : List (List ℕ)) (j : ℕ) (b' : List ℕ) → gathered damage_at k bs ≡ [] → j < length bs → is_sound (k + j) b' ≡ false
    → gathered damage_at k (set bs j b') ≡ (k + j) ∷ []
unfolding gathered
only_there k [] j b' e h f = absurd (omega arith)
only_there k (b ∷ bs) zero b' e h f =
    let here : is_sound k b' ≡ false = rw (add-zero k) at f in
    rw (here, (none_next k b bs e).1, add-zero k)
only_there k (b ∷ bs) (suc j) b' e h f =
    let same : k + suc j ≡ suc k + j = omega arith in
    rw ((none_next k b bs e).0, same) (only_there (suc k) bs j b' (none_next k b bs e).1 (omega arith) (rw same at f))

module _ (trace : List ℕ) (j p v : ℕ) (whole : j < length trace / 512) (inside : p < 512) where
  blocks_changed : blocks_of (set trace (j * 512 + p) v) ≡ set (blocks_of trace) j (set (get_or (blocks_of trace) j []) p v)
  unfolding blocks_of
  blocks_changed = rw (length-set trace (j * 512 + p) v) (blocks_set (length trace / 512) trace j p v inside)

  block : get_or (blocks_of trace) j [] ≡ take 512 (drop (j * 512) trace)
  unfolding blocks_of
  block = block_in (length trace / 512) trace j whole

  block_long : length (get_or (blocks_of trace) j []) ≡ 512
  block_long = ap length block ∙ length-take-le 512 (drop (j * 512) trace) (omega (arith, length-drop (j * 512) trace))

  block_byte : get_or (get_or (blocks_of trace) j []) p 0 ≡ get_or trace (j * 512 + p) 0
  block_byte = ap (λ (b : List ℕ). get_or b p 0) block ∙ get_or-take 512 (drop (j * 512) trace) p 0 inside ∙ get_or-drop (j * 512) trace p 0

  few : j < length (blocks_of trace)
  few = omega (arith, length_blocks trace)

  module _ (byte : get_or trace (j * 512 + p) 0 < 256) (new : v < 256) (other : v ≢ get_or trace (j * 512 + p) 0) where
    hurt : is_sound j (get_or (blocks_of trace) j []) ≡ true → is_sound j (set (get_or (blocks_of trace) j []) p v) ≡ false
    hurt sound = one_byte j (get_or (blocks_of trace) j []) p v block_long (rw block_byte byte) inside new (λ e. other (e ∙ block_byte)) sound

    pub its_block : is_sound j (get_or (blocks_of trace) j []) ≡ true
        → (is_sound j (get_or (blocks_of (set trace (j * 512 + p) v)) j []) ≡ false)
        × ((i : ℕ) → i ≢ j → get_or (blocks_of (set trace (j * 512 + p) v)) i [] ≡ get_or (blocks_of trace) i [])
    its_block sound =
        let b : List ℕ = set (get_or (blocks_of trace) j []) p v in (
          rw (blocks_changed, get_or-set_same (blocks_of trace) j b [] few) (hurt sound),
          λ i ne. rw (blocks_changed, get_or-set_other (blocks_of trace) j i b [] ne),
        )

    pub only_its_block : damaged_places trace ≡ [] → damaged_places (set trace (j * 512 + p) v) ≡ j ∷ []
    unfolding damaged_places
    only_its_block none =
        let zero_more : 0 + j ≡ j = omega arith in
        let b : List ℕ = get_or (blocks_of trace) j [] in
        let sound : is_sound j b ≡ true = rw zero_more at (sound_at 0 (blocks_of trace) j none few) in
        rw blocks_changed (only_there 0 (blocks_of trace) j (set b p v) none few (rw zero_more (hurt sound))) ∙ ap (λ (i : ℕ). i ∷ []) zero_more
