-- Rows that are split where their contents can lose a block, one after the other. What is read for a row has not been written by those before: only what is left over is added up.
use mathlib.Core.Path.{◌≡◌, refl, sym, subst, ◌∙◌}
use mathlib.Core.Logic.{◌⊎◌, inl, inr, ⊎_elim, ◌≢◌}
use mathlib.Core.Bool.{Bool, true, false, cond}
use mathlib.Core.List.{List}
use Prim.Native.Nat.{ℕ, ◌+◌, ◌-◌, ◌*◌, ◌%◌, ◌≤◌, ◌<◌, zero-le}
use native.Mathlib.Nat.{le_trans, le_of_eq, mod-lt}
use native.Mathlib.Numerals.{add-one}
use native.Mathlib.Omega.{arith}
use native.Mathlib.Decide.{ℕ_discrete}
use lib.Dec.{eqb}
use lib.ListN.{length}
use borrow.Author.Tests.{eq-eqb, ne_eqb}
use Rattle.basics.proofs.Sums.{sum_to, sum_le, sum_const}
use Rattle.rules.specs.declared.Target.{Target}
use Rattle.rules.specs.Contents.{hits}
use Rattle.tight.specs.declared.Shares.{Shares}
use Rattle.tight_rows.specs.Room.{words_of, Leaves}
use Rattle.tight_rows.specs.Rows.{part_at, left_at, split_to, Splittable, if}
use Rattle.tight.specs.Access.{risk}
use Rattle.tight.specs.Splitting.{can_lose, split_if, Shareable, share_at, is_split, left_of, Shared}
use Rattle.tight_rows.proofs.Writing.{is_within_lem, not_within, row_before}

module _ (x : Target) (C : ℕ) where
  pub safe_keeps : hits x C ≡ false → risk x C ≡ 0 → false ≡ can_lose x C
  safe_keeps h z = rw (h, eq-eqb (risk x C) 0 z) refl

  pub loses : hits x C ≡ false → risk x C ≢ 0 → true ≡ can_lose x C
  loses h n = rw (h, ne_eqb (risk x C) 0 n) refl

module _ (N : ℕ) (x : Target) (m row select rest n : ℕ) (xs : List ℕ) where
  pub split_there : (ys : List ℕ) → can_lose x (words_of xs m) ≡ true → Leaves (split_to N row select rest n) xs ys → Leaves (split_if N x m row select rest n) xs ys
  split_there ys e h = record { long = h.long; word = λ i l. h.word i l ∙ sym (rw e refl) }

  pub split_none : can_lose x (words_of xs m) ≡ false → Leaves (split_if N x m row select rest n) xs xs
  split_none e = record { long = refl; word = λ i l. sym (rw e refl) }

  -- what stands there then
  module _ (ys : List ℕ) (h : Leaves (split_if N x m row select rest n) xs ys) (before : row + n ≤ rest) (room : rest + n ≤ length xs) where
    pub split_cell : (j : ℕ) → j < n → words_of ys (row + j) ≡ cond (can_lose x (words_of xs m)) (part_at N (row + j) (select + j) (words_of xs)) (words_of xs (row + j))
    split_cell j l =
        let e : row + j - row ≡ j = omega arith in
        h.word (row + j) (omega arith) ∙ rw (is_within_lem row n (row + j) (omega arith) (omega arith), e) refl

    pub split_left : (j : ℕ) → j < n → words_of ys (rest + j) ≡ words_of xs (rest + j) + if (can_lose x (words_of xs m)) (left_at N (row + j) (select + j) (words_of xs))
    split_left j l =
        let e : rest + j - rest ≡ j = omega arith in
        h.word (rest + j) (omega arith) ∙ rw (not_within row n (rest + j) (inr (omega arith)), is_within_lem rest n (rest + j) (omega arith) (omega arith), e) (go (can_lose x (words_of xs m)))
      where
        go : (b : Bool) → cond b (words_of xs (rest + j) + left_at N (row + j) (select + j) (words_of xs)) (words_of xs (rest + j)) ≡ words_of xs (rest + j) + if b (left_at N (row + j) (select + j) (words_of xs))
        go true = refl
        go false = omega arith

    pub split_beside : (i : ℕ) → i < length xs → (i < row) ⊎ (row + n ≤ i) → (i < rest) ⊎ (rest + n ≤ i) → words_of ys i ≡ words_of xs i
    split_beside i l a b = h.word i l ∙ rw (not_within row n i a, not_within rest n i b) (go (can_lose x (words_of xs m)))
      where
        go : (c : Bool) → cond c (words_of xs i) (words_of xs i) ≡ words_of xs i
        go true = refl
        go false = refl

-- ---- row after row

left_most : (N : ℕ) (b c : Bool) (v : ℕ) → 1 ≤ N → if b (cond c 0 (v % N)) ≤ N
left_most N true true v l = zero-le
left_most N true false v l = omega (arith, mod-lt v l)
left_most N false c v l = zero-le

module _ (N : ℕ) (x : Target) (s : Shares) (xs : List ℕ) (ok : Shareable N s xs) where
  module _ (m : ℕ) (ys : List ℕ) (l : m < s.count) (so : Shared N x s m xs ys) where
    -- row m ends where the rows do, or before
    pub row_within : s.rows + m * s.length + s.length ≤ s.select
    row_within = omega (arith, ok.rows, row_before s.length m s.count l)

    same_mask : words_of ys (s.masks + m) ≡ words_of xs (s.masks + m)
    same_mask = so.beside (s.masks + m) (omega (arith, ok.masks, row_within, ok.chosen, ok.room)) (inl (omega (arith, ok.masks))) (inl (omega (arith, ok.masks, row_within, ok.chosen)))

    same_cell : (j : ℕ) → j < s.length → words_of ys (share_at s m j) ≡ words_of xs (share_at s m j)
    same_cell j h = so.beside (share_at s m j) (omega (arith, row_within, ok.chosen, ok.room)) (inr (omega arith)) (inl (omega (arith, row_within, ok.chosen)))

    same_choice : (j : ℕ) → j < s.width → words_of ys (s.select + j) ≡ words_of xs (s.select + j)
    same_choice j h = so.beside (s.select + j) (omega (arith, ok.chosen, ok.room)) (inr (omega (arith, row_within))) (inl (omega (arith, ok.chosen)))

    sum_most : (j : ℕ) → sum_to m (left_of N x s (words_of xs) j) ≤ m * N
    sum_most j =
        le_trans
        (sum_le m (left_of N x s (words_of xs) j) (λ k. N) (λ k h. left_most N (is_split x s (words_of xs) k) (eqb (words_of xs (s.select + j)) 0) (words_of xs (share_at s k j)) ok.ways))
        (le_of_eq (sum_const m N))

    pub may_split : (s.masks + m < length ys) × Splittable N (s.rows + m * s.length) s.select s.rest s.width ys
    may_split = (
      omega (arith, so.long, ok.masks, row_within, ok.chosen, ok.room),
      record {
        ways = ok.ways;
        inside = omega (arith, so.long, row_within, ok.wide, ok.chosen, ok.room);
        chosen = omega (arith, so.long, ok.chosen, ok.room);
        room = omega (arith, so.long, ok.room);
        apart = inl (omega (arith, row_within, ok.wide, ok.chosen));
        beside = inl (omega (arith, row_within, ok.wide));
        behind = inr ok.chosen;
        fits = λ j h. omega (arith, so.left j h, sum_most j, ok.fits j h, mod-lt (words_of ys (share_at s m j)) ok.ways, row_before N m s.count l);
      },
    )

    module _ (zs : List ℕ) (new : Leaves (split_if N x (s.masks + m) (s.rows + m * s.length) s.select s.rest s.width) ys zs) where
      before_rest : s.rows + m * s.length + s.width ≤ s.rest
      before_rest = omega (arith, row_within, ok.wide, ok.chosen)

      room_there : s.rest + s.width ≤ length ys
      room_there = omega (arith, so.long, ok.room)

      other : (i : ℕ) → i < length xs → (i < s.rows + m * s.length) ⊎ (s.rows + m * s.length + s.width ≤ i) → (i < s.rest) ⊎ (s.rest + s.width ≤ i) → words_of zs i ≡ words_of ys i
      other i h = split_beside N x (s.masks + m) (s.rows + m * s.length) s.select s.rest s.width ys zs new before_rest room_there i (omega (arith, so.long))

      -- a cell of a row before
      earlier : (k j : ℕ) → k < m → j < s.length → words_of zs (share_at s k j) ≡ words_of ys (share_at s k j)
      earlier k j h i =
          other (share_at s k j) (omega (arith, row_before s.length k m h, row_within, ok.chosen, ok.room)) (inl (omega (arith, row_before s.length k m h)))
          (inl (omega (arith, row_before s.length k m h, row_within, ok.chosen)))

      new_cell : (j : ℕ) → j < s.width
          → words_of zs (share_at s m j) ≡ cond (is_split x s (words_of xs) m) (part_at N (share_at s m j) (s.select + j) (words_of xs)) (words_of xs (share_at s m j))
      new_cell j h =
          split_cell N x (s.masks + m) (s.rows + m * s.length) s.select s.rest s.width ys zs new before_rest room_there j h
          ∙ rw (same_mask, same_cell j (omega (arith, ok.wide)), same_choice j h) refl

      new_left : (j : ℕ) → j < s.width → words_of zs (s.rest + j) ≡ words_of ys (s.rest + j) + left_of N x s (words_of xs) j m
      new_left j h =
          split_left N x (s.masks + m) (s.rows + m * s.length) s.select s.rest s.width ys zs new before_rest room_there j h
          ∙ rw (same_mask, same_cell j (omega (arith, ok.wide)), same_choice j h) refl

      split : (k : ℕ) → k < m + 1 → (P : ℕ → Type 0) → (k < m → P k) → P m → P k
      split k h P f g = go (ℕ_discrete k m)
        where
          go : Dec (k ≡ m) → P k
          go (yes e) = subst P (sym e) g
          go (no e) = f (omega (arith, e))

      pub shared_next : Shared N x s (m + 1) xs zs
      shared_next =
          record {
            long = new.long ∙ so.long;
            cells = λ k j h i. split k h
                (λ r. words_of zs (share_at s r j) ≡ cond (is_split x s (words_of xs) r) (part_at N (share_at s r j) (s.select + j) (words_of xs)) (words_of xs (share_at s r j)))
                (λ p. earlier k j p (omega (arith, ok.wide)) ∙ so.cells k j p i)
                (new_cell j i);
            left = λ j h. new_left j h ∙ rw (add-one m) (omega (arith, so.left j h));
            beyond = λ k j h i n. split k h (λ r. words_of zs (share_at s r j) ≡ words_of xs (share_at s r j)) (λ p. earlier k j p n ∙ so.beyond k j p i n)
                (other (share_at s m j) (omega (arith, row_within, ok.chosen, ok.room)) (inr (omega arith)) (inl (omega (arith, row_within, ok.chosen))) ∙ same_cell j n);
            beside = λ i h a b. other i h (⊎_elim (λ p. inl (omega arith)) (λ p. inr (omega (arith, ok.wide))) a) b
                ∙ so.beside i h (⊎_elim (λ p. inl p) (λ p. inr (omega arith)) a) b;
          }
