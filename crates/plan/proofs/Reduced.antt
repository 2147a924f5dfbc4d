-- The plan is that of `reduced`: from the units of each contents of a table, it empties what the reduction of the table empties, in the same order. So the reduced table is the table with each mask renamed
-- to where the plan's steps end, each row moved once; what the plan sets aside is what the reduction sets aside; and the units that the plan leaves are those of the reduced table.
use mathlib.Core.Path.{◌≡◌, refl, sym, ap, ap₂, ◌∙◌}
use mathlib.Core.Logic.{◌≢◌, ◌⊎◌, inl, inr, ⊎_elim}
use mathlib.Core.Bool.{Bool, true, false, cond, ◌||◌, ◌&&◌, true≢false}
use mathlib.Core.List.{List, [], ◌∷◌}
use Prim.Native.Nat.{ℕ, zero, suc, ◌+◌, ◌-◌, ◌^◌, ◌≤◌, ◌<◌}
use native.Mathlib.Nat.{le_refl, le_trans, le_of_eq, eq-or-lt_of_le, le_of_suc-le-suc, not-suc-le-zero}
use native.Mathlib.Omega.{arith}
use lib.Dec.{eqb, ltb}
use lib.ListN.{length, get_or, set, length-set}
use lib.Seq.{get_or-set_same, get_or-set_other}
use lib.Pow.{pow_pos}
use borrow.Author.Tests.{eqb-true, eqb-false, eq-eqb, ne_eqb, lt-ltb, le-ltb, ltb-true, not-true}
use Rattle.basics.specs.Sums.{sum_over}
use Rattle.basics.proofs.Bools.{three, and_right}
use Rattle.basics.proofs.Sums.{sum_on, on_eq, on_point}
use Rattle.rules.specs.declared.State.{State}
use Rattle.rules.specs.Contents.{places, among, Place}
use Rattle.rules.specs.Filling.{same_filled}
use Rattle.rules.specs.Fold.{changed}
use Rattle.rules.specs.Shape.{Every}
use Rattle.rules.specs.Table.{units_of, total, Work}
use Rattle.rules.specs.Units.{whole, more}
use Rattle.rules.proofs.Contents.{sixteen_places}
use Rattle.rules.proofs.Lists.{every_weaker}
use Rattle.rules.proofs.Splitting.{more_adds}
use Rattle.rules.proofs.Table.{Rising}
use Rattle.tight_rules.specs.Rows.{contents, units_in, move, moved}
use Rattle.tight_rules.specs.Reduction.{lowered, lands, relabel, Reducing, crowded, reduced, emptied as table_emptied, light as table_light, level as table_level, levels as table_levels}
use Rattle.tight_rules.proofs.Parts.{Part, lowered_part, lands_part}
use Rattle.tight_rules.proofs.Few.{sub_le, lands_below, units_most, move_every}
use Rattle.plan.specs.Plan.{Plan, relabelled, units_at, end_of, itself, some, present_in, start, poured, emptied, light, level, levels, all_levels, planned}
use Rattle.plan.proofs.Steps.{length_itself, planned_so}
use Rattle.plan.proofs.Tables.{Positive, only_to, having, moved_rising, moved_positive, moved_total, move_alike, move_twice, move_none, units_moved, never_to, contents_count}
use Rattle.plan.proofs.Lands.{Lowers, lowered_less, onward_lands, lands_out, lands_more}

-- ---- tables

-- a table of contents of k places: it rises, each state has units, and they are no more than WHOLE
pub record Tabled (k : ℕ) (T : List State) : Type 0 where
  pub rises : Rising T
  pub some : Positive T
  pub below : Every (λ s. s.mask < 2 ^ k) T
  pub full : total T ≤ whole

tabled_moved : (k C D : ℕ) (T : List State) → D < 2 ^ k → Tabled k T → Tabled k (move (relabelled (only_to C D)) T)
tabled_moved k C D T l t =
    record {
      rises = moved_rising (only_to C D) T;
      some = moved_positive (only_to C D) T t.some;
      below = move_every (λ m. m < 2 ^ k) (relabelled (only_to C D)) T
          (every_weaker (λ s. s.mask < 2 ^ k) (λ s. only_to C D s.mask < 2 ^ k) (λ s h. go s h (eqb s.mask C)) T t.below);
      full = le_trans (le_of_eq (moved_total (only_to C D) T t.full)) t.full;
    }
  where
    go : (s : State) → s.mask < 2 ^ k → (b : Bool) → cond b D s.mask < 2 ^ k
    go s h true = l
    go s h false = h

-- the units that change where C is renamed are those of C
changed_units : (C D : ℕ) → D ≢ C → (T : List State) → sum_over (λ s. changed s (relabel C D s)) T ≡ units_in C T
unfolding units_in
changed_units C D q [] = refl
changed_units C D q (s ∷ T) = go (eqb s.mask C) refl (changed_units C D q T)
  where
    go : (b : Bool) → eqb s.mask C ≡ b → sum_over (λ s. changed s (relabel C D s)) T ≡ units_in C T
        → cond (eqb s.mask (cond b D s.mask) && eqb s.misses s.misses && same_filled s.filled s.filled) 0 (units_of s) + sum_over (λ s. changed s (relabel C D s)) T
        ≡ cond b (units_of s) 0 + units_in C T
    go true e h = rw (ne_eqb s.mask D (λ z. q (sym z ∙ eqb-true s.mask C e))) (omega arith)
    go false e h =
        rw (eq-eqb s.mask s.mask refl, eq-eqb s.misses s.misses refl, eq-eqb s.filled.front s.filled.front refl, eq-eqb s.filled.back s.filled.back refl)
        (omega arith)

-- one count after another
counts_on : (x a p u v c : ℕ) → x ≡ more a p → c ≡ u → v ≡ u → more x c ≡ more a (more p v)
unfolding more
counts_on x a p u v c d e f = omega arith

present_having : (n : ℕ) (ws : List ℕ) (T : List State) → ((C : ℕ) → C < n → units_at ws C ≡ units_in C T) → present_in n ws ≡ having n T
unfolding present_in
present_having zero ws T h = refl
present_having (suc n) ws T h = ap₂ ◌+◌ (present_having n ws T (λ C l. h C (omega arith))) (ap some (h n (le_refl (suc n))))

-- ---- the start

itself_other : (m n : ℕ) (ws : List ℕ) (i d : ℕ) → (i < n) ⊎ (n + m ≤ i) → get_or (itself m n ws) i d ≡ get_or ws i d
unfolding itself
itself_other zero n ws i d l = refl
itself_other (suc m) n ws i d l =
    itself_other m n (set ws (n + m) m) i d (⊎_elim (λ h. inl h) (λ h. inr (omega arith)) l)
    ∙ get_or-set_other ws (n + m) i m d (λ e. ⊎_elim (λ h. omega arith) (λ h. omega arith) l)

itself_goes : (m n : ℕ) (ws : List ℕ) (C d : ℕ) → n + m ≤ length ws → C < m → get_or (itself m n ws) (n + C) d ≡ C
unfolding itself
itself_goes zero n ws C d room l = absurd (not-suc-le-zero l)
itself_goes (suc m) n ws C d room l =
    go (itself_goes m n (set ws (n + m) m) C d (omega (arith, length-set ws (n + m) m))) (eq-or-lt_of_le (le_of_suc-le-suc l))
  where
    go : (C < m → get_or (itself m n (set ws (n + m) m)) (n + C) d ≡ C) → (C ≡ m) ⊎ (C < m) → get_or (itself m n (set ws (n + m) m)) (n + C) d ≡ C
    go ih (inl e) = rw e (itself_other m n (set ws (n + m) m) (n + m) d (inr (le_refl (n + m))) ∙ get_or-set_same ws (n + m) m d (omega arith))
    go ih (inr h) = ih h

lands_none : (f : ℕ) (y : Place) (C : ℕ) → C ≡ lands f y [] C
unfolding lands
lands_none zero y C = refl
lands_none (suc f) y C = refl

every_one : (P : ℕ → Type 0) → ((C : ℕ) → P C) → (T : List State) → Every (λ s. P s.mask) T
every_one P h [] = tt
every_one P h (s ∷ T) = (h s.mask, every_one P h T)

-- ---- the plan and the reduction side by side

module _ (k : ℕ) (y : Place) (w : Work) (ws : List ℕ) where
  -- so far both emptied the same contents
  record Alike (r : Reducing) (p : Plan) : Type 0 where
    long : length p.words ≡ length ws
    behind : (i : ℕ) → 2 ^ k + 2 ^ k ≤ i → (d : ℕ) → get_or p.words i d ≡ get_or ws i d
    sums : (C : ℕ) → C < 2 ^ k → units_at p.words C ≡ units_in C r.work.table
    goes : (C : ℕ) → C < 2 ^ k → (d : ℕ) → get_or p.words (2 ^ k + C) d ≡ cond (among r.gone C) (lowered places y C) C
    counts : p.present ≡ present_in (2 ^ k) p.words
    lowers : Lowers y r.gone
    fit : Tabled k r.work.table
    table : r.work.table ≡ move (relabelled (lands places y r.gone)) w.table
    aside : r.work.aside ≡ more w.aside p.aside

  counted : (r : Reducing) (p : Plan) → Alike r p → p.present ≡ length (contents r.work.table)
  counted r p a =
      a.counts ∙ present_having (2 ^ k) p.words r.work.table a.sums
      ∙ sym (contents_count (2 ^ k) r.work.table a.fit.rises a.fit.some a.fit.below)

  module _ (room : 2 ^ k + 2 ^ k ≤ length ws) (tabled : Tabled k w.table) where
    alike_start : ((C : ℕ) → C < 2 ^ k → units_at ws C ≡ units_in C w.table) → w.aside ≤ whole
        → Alike (record { work = w; gone = [] }) (start (2 ^ k) (itself (2 ^ k) (2 ^ k) ws))
    alike_start units few =
        record {
          long = length_itself (2 ^ k) (2 ^ k) ws;
          behind = λ i l d. itself_other (2 ^ k) (2 ^ k) ws i d (inr l);
          sums = λ C l. itself_other (2 ^ k) (2 ^ k) ws C 0 (inl l) ∙ units C l;
          goes = λ C l d. itself_goes (2 ^ k) (2 ^ k) ws C d room l;
          counts = refl;
          lowers = λ C e. absurd (true≢false (sym e));
          fit = tabled;
          table = move_none w.table tabled.rises tabled.some tabled.full
              ∙ move_alike (λ C. C) (lands places y []) w.table (every_one (λ C. C ≡ lands places y [] C) (lands_none places y) w.table);
          aside = omega (arith, more_adds w.aside 0 (omega arith));
        }

    -- ---- one contents

    module _ (C : ℕ) (below : C < 2 ^ k) (r : Reducing) (p : Plan) (a : Alike r p) (loses : lowered places y C ≢ C) (has : 0 < units_in C r.work.table) where
      L : ℕ
      L = lowered places y C

      vs : List ℕ
      vs = set p.words (2 ^ k + C) L

      T : List State
      T = r.work.table

      D : ℕ
      D = lands places y (C ∷ r.gone) C

      T' : List State
      T' = move (relabelled (only_to C D)) T

      lowers' : Lowers y (C ∷ r.gone)
      lowers' X h = go (eqb C X) refl h
        where
          go : (b : Bool) → eqb C X ≡ b → (b || among r.gone X) ≡ true → lowered places y X ≢ X
          go true e h = rw (← eqb-true C X e) loses
          go false e h = a.lowers X h

      inside : (i : ℕ) → i < 2 ^ k + 2 ^ k → i < length p.words
      inside i l = omega (arith, a.long)

      goes' : (X : ℕ) → X < 2 ^ k → (d : ℕ) → get_or vs (2 ^ k + X) d ≡ cond (among (C ∷ r.gone) X) (lowered places y X) X
      unfolding vs L
      goes' X l d = go (eqb C X) refl
        where
          go : (b : Bool) → eqb C X ≡ b → get_or vs (2 ^ k + X) d ≡ cond (b || among r.gone X) (lowered places y X) X
          go true e = rw (← eqb-true C X e) (get_or-set_same p.words (2 ^ k + C) L d (inside (2 ^ k + C) (omega arith)))
          go false e = get_or-set_other p.words (2 ^ k + C) (2 ^ k + X) L d (λ q. eqb-false C X e (omega arith)) ∙ a.goes X l d

      end : end_of (2 ^ k) vs C ≡ D
      unfolding D
      end = onward_lands y (C ∷ r.gone) lowers' k vs goes' places C below

      less : D < C
      unfolding D L
      less =
          let short : L < 2 ^ k = (lowered_part places y C).short k below in
          let part : Part y D L = lands_below places y (C ∷ r.gone) C (omega (arith, sixteen_places)) (rw (eq-eqb C C refl) refl) in
          omega (arith, sub_le k D L (part.short k short) short part.inside, lowered_less k y C below loses)

      apart : D ≢ C
      apart e = omega (arith, less)

      kept : (X : ℕ) → X < 2 ^ k → units_at vs X ≡ units_in X T
      unfolding vs T
      kept X l = get_or-set_other p.words (2 ^ k + C) X L 0 (λ q. omega arith) ∙ a.sums X l

      -- the units afterwards
      units_C : units_in C T' ≡ 0
      unfolding T' T
      units_C = let h = units_moved C D C T a.fit.full in let g = rw (eq-eqb C C refl, ne_eqb C D (λ e. apart (sym e))) at h in omega (arith, g)

      units_D : units_in D T' ≡ units_in D T + units_in C T
      unfolding T' T
      units_D = let h = units_moved C D D T a.fit.full in let g = rw (eq-eqb D D refl, ne_eqb D C apart) at h in omega (arith, g)

      units_other : (X : ℕ) → X ≢ C → X ≢ D → units_in X T' ≡ units_in X T
      unfolding T' T
      units_other X c d = let h = units_moved C D X T a.fit.full in let g = rw (ne_eqb X C c, ne_eqb X D d) at h in omega (arith, g)

      -- the words afterwards
      after : List ℕ
      after = set (set vs D (more (units_at vs D) (units_at vs C))) C 0

      poured_to : emptied (2 ^ k) y C p ≡ record { words = after; present = p.present - some (units_at vs D); aside = more p.aside (units_at vs C) }
      unfolding emptied poured after vs L
      poured_to = rw end refl

      long_after : length after ≡ length ws
      unfolding after vs
      long_after = simp length-set a.long

      -- nothing but these three words changes
      same_after : (i d : ℕ) → i ≢ C → i ≢ D → get_or after i d ≡ get_or vs i d
      unfolding after
      same_after i d c e = get_or-set_other (set vs D (more (units_at vs D) (units_at vs C))) C i 0 d c ∙ get_or-set_other vs D i (more (units_at vs D) (units_at vs C)) d e

      room_D : D < length vs
      unfolding vs
      room_D = simp length-set (inside D (omega (arith, less)))

      room_C : C < length (set vs D (more (units_at vs D) (units_at vs C)))
      unfolding vs
      room_C = simp length-set (inside C (omega arith))

      -- no sum stops at WHOLE
      fits : units_in D T + units_in C T ≤ whole
      unfolding T' T
      fits = omega (arith, units_D, units_most D T', moved_total (only_to C D) T a.fit.full, a.fit.full)

      sums_after : (X : ℕ) → X < 2 ^ k → units_at after X ≡ units_in X T'
      unfolding after
      sums_after X l = go (eqb X C) refl (eqb X D) refl
        where
          go : (c : Bool) → eqb X C ≡ c → (d : Bool) → eqb X D ≡ d → units_at after X ≡ units_in X T'
          go true e d f = rw (eqb-true X C e) (get_or-set_same (set vs D (more (units_at vs D) (units_at vs C))) C 0 0 room_C ∙ sym units_C)
          go false e true f =
              let same : X ≡ D = eqb-true X D f in
              rw same
              (get_or-set_other (set vs D (more (units_at vs D) (units_at vs C))) C D 0 0 apart
              ∙ get_or-set_same vs D (more (units_at vs D) (units_at vs C)) 0 room_D
              ∙ rw (kept D (omega (arith, less)), kept C below) (more_adds (units_in D T) (units_in C T) fits)
              ∙ sym units_D)
          go false e false f =
              let c : X ≢ C = eqb-false X C e in
              let d : X ≢ D = eqb-false X D f in
              same_after X 0 c d ∙ kept X l ∙ sym (units_other X c d)

      -- how many have units: not C, but D
      abbrev others : ℕ → Bool
      others X = cond (eqb X C) false (ltb 0 (units_in X T))

      before : p.present ≡ sum_on (2 ^ k) others (λ i. 1) + 1
      unfolding T
      before =
          a.counts ∙ present_having (2 ^ k) p.words T a.sums
          ∙ on_point (2 ^ k) others (λ X. ltb 0 (units_in X T)) (λ i. 1) C below (rw (eq-eqb C C refl) refl) (lt-ltb 0 (units_in C T) has) (λ i l q. rw (ne_eqb i C q) refl)

      at_other : (i : ℕ) → i ≢ D → others i ≡ ltb 0 (units_in i T')
      at_other i d = each (eqb i C) refl
        where
          each : (b : Bool) → eqb i C ≡ b → cond b false (ltb 0 (units_in i T)) ≡ ltb 0 (units_in i T')
          each true e = sym (le-ltb 0 (units_in i T') (le_of_eq (rw (eqb-true i C e) units_C)))
          each false e = ap (ltb 0) (sym (units_other i (eqb-false i C e) d))

      at_D : others D ≡ ltb 0 (units_in D T)
      at_D = rw (ne_eqb D C apart) refl

      now_D : ltb 0 (units_in D T') ≡ true
      unfolding T
      now_D = lt-ltb 0 (units_in D T') (omega (arith, units_D, has))

      remain : p.present - some (units_at vs D) ≡ having (2 ^ k) T'
      remain = rw (kept D (omega (arith, less))) (go (ltb 0 (units_in D T)) refl)
        where
          each : ltb 0 (units_in D T) ≡ true → (i : ℕ) (b : Bool) → eqb i D ≡ b → others i ≡ ltb 0 (units_in i T')
          each e i true f = rw (eqb-true i D f) (at_D ∙ e ∙ sym now_D)
          each e i false f = at_other i (eqb-false i D f)

          go : (b : Bool) → ltb 0 (units_in D T) ≡ b → p.present - cond b 1 0 ≡ having (2 ^ k) T'
          go true e = omega (arith, before, on_eq (2 ^ k) others (λ X. ltb 0 (units_in X T')) (λ i. 1) (λ i l. each e i (eqb i D) refl))
          go false e =
              omega (arith, before, on_point (2 ^ k) others (λ X. ltb 0 (units_in X T')) (λ i. 1) D (omega (arith, less)) (at_D ∙ e) now_D (λ i l q. at_other i q))

      alike_emptied : Alike (table_emptied y C r) (emptied (2 ^ k) y C p)
      unfolding table_emptied moved T' T D vs
      alike_emptied = rw poured_to
          (record {
            long = long_after;
            behind = λ i l d. same_after i d (λ q. omega arith) (λ q. omega (arith, less)) ∙ get_or-set_other p.words (2 ^ k + C) i L d (λ q. omega arith) ∙ a.behind i l d;
            sums = sums_after;
            goes = λ X l d. same_after (2 ^ k + X) d (λ q. omega arith) (λ q. omega (arith, less)) ∙ goes' X l d;
            counts = remain ∙ sym (present_having (2 ^ k) after T' sums_after);
            lowers = lowers';
            fit = tabled_moved k C D T (omega (arith, less)) a.fit;
            table = ap (move (relabelled (only_to C D))) a.table ∙ move_twice (lands places y r.gone) (only_to C D) w.table tabled.some tabled.full
                ∙ move_alike _ _ w.table (every_one (λ X. only_to C D (lands places y r.gone X) ≡ lands places y (C ∷ r.gone) X) (lands_more y r.gone C lowers') w.table);
            aside = counts_on r.work.aside w.aside p.aside (units_in C T) (units_at vs C) _ a.aside (changed_units C D apart T) (kept C below);
          })

    -- ---- levels

    same_tests : (K j C : ℕ) (r : Reducing) (p : Plan) → Alike r p → C < 2 ^ k
        → (ltb K p.present && light (2 ^ j) y C p.words) ≡ (crowded K r && table_light j y C r.work.table)
    same_tests K j C r p a l = rw (counted r p a, a.sums C l) refl

    level_alike : (K j m : ℕ) (r : Reducing) (p : Plan) → m < 2 ^ k → Alike r p → Alike (table_level K j y m r) (level K (2 ^ j) (2 ^ k) y m p)
    unfolding table_level level
    level_alike K j zero r p l a = a
    level_alike K j (suc m) r p l a =
        rw (same_tests K j (suc m) r p a l)
        (level_alike K j m _ _ (omega arith) (go (crowded K r && table_light j y (suc m) r.work.table) refl))
      where
        go : (b : Bool) → (crowded K r && table_light j y (suc m) r.work.table) ≡ b → Alike (cond b (table_emptied y (suc m) r) r) (cond b (emptied (2 ^ k) y (suc m) p) p)
        go true e =
            let (some, few, loses) = three (ltb 0 (units_in (suc m) r.work.table)) _ _ (and_right (crowded K r) _ e) in
            alike_emptied (suc m) l r p a (eqb-false _ _ (not-true _ loses)) (ltb-true 0 _ some)
        go false e = a

    levels_alike : (K f : ℕ) (b c : Bool) → c ≡ b → (j : ℕ) (r : Reducing) (p : Plan) → Alike r p → Alike (table_levels K k y f b j r) (levels K (2 ^ k) y f c j p)
    levels_alike K zero b c e j r p a = a
    levels_alike K (suc f) false c e j r p a = rw e a
    levels_alike K (suc f) true c e j r p a =
        let s = table_level K j y (2 ^ k - 1) r in
        let q = level K (2 ^ j) (2 ^ k) y (2 ^ k - 1) p in
        let next : Alike s q = level_alike K j (2 ^ k - 1) r p (omega (arith, pow_pos k)) a in
        rw e (levels_alike K f (crowded K s) (ltb K q.present) (ap (ltb K) (counted s q next)) (suc j) s q next)

-- ---- the plan of a table

-- what the plan p of the words ws is to the table of w, which becomes the table of v
pub record Reduces (k : ℕ) (y : Place) (w v : Work) (ws : List ℕ) (p : Plan) : Type 0 where
  -- each row moves once, to where its mask goes in the end
  pub moves : v ≡ record { table = move (relabelled (end_of (2 ^ k) p.words)) w.table; aside = more w.aside p.aside }
  -- which has only blocks that it had, and the one held back if it had that
  pub part : (C : ℕ) → C < 2 ^ k → Part y (end_of (2 ^ k) p.words C) C
  -- the units that are left are those of the table
  pub sums : (C : ℕ) → C < 2 ^ k → units_at p.words C ≡ units_in C v.table
  -- as many contents have some
  pub present : p.present ≡ length (contents v.table)
  pub counts : p.present ≡ present_in (2 ^ k) p.words
  -- and one that goes on has none
  pub emptied : (C : ℕ) → C < 2 ^ k → get_or p.words (2 ^ k + C) C < C → units_at p.words C ≡ 0
  -- the words that follow stay
  pub long : length p.words ≡ length ws
  pub behind : (i : ℕ) → 2 ^ k + 2 ^ k ≤ i → (d : ℕ) → get_or p.words i d ≡ get_or ws i d

module _ (k : ℕ) (y : Place) (w : Work) (ws : List ℕ) (room : 2 ^ k + 2 ^ k ≤ length ws) (tabled : Tabled k w.table) (few : w.aside ≤ whole)
    (units : (C : ℕ) → C < 2 ^ k → units_at ws C ≡ units_in C w.table) where
  alike_reduces : (r : Reducing) (p : Plan) → Alike k y w ws r p → Reduces k y w r.work ws p
  alike_reduces r p a =
      record {
        moves = ap₂ (λ (T : List State) (n : ℕ). record { table = T; aside = n }) (a.table ∙ move_alike _ _ w.table (every_weaker _ _ (λ s l. sym (ends s.mask l)) w.table tabled.below)) a.aside;
        part = λ C l. rw (ends C l) (lands_part places y r.gone C);
        sums = a.sums;
        present = counted k y w ws r p a;
        counts = a.counts;
        emptied = λ C l h. a.sums C l ∙ ap (units_in C) a.table ∙ never_to (lands places y r.gone) C w.table tabled.full (λ X. lands_out y r.gone a.lowers X C (gone_on C l h));
        long = a.long;
        behind = a.behind;
      }
    where
      gone_on : (C : ℕ) → C < 2 ^ k → get_or p.words (2 ^ k + C) C < C → among r.gone C ≡ true
      gone_on C l h = go (among r.gone C) refl
        where
          go : (b : Bool) → among r.gone C ≡ b → b ≡ true
          go true e = refl
          go false e = absurd (omega (arith, a.goes C l C, ap (λ (x : Bool). cond x (lowered places y C) C) e))

      ends : (C : ℕ) → C < 2 ^ k → end_of (2 ^ k) p.words C ≡ lands places y r.gone C
      ends C l = onward_lands y r.gone a.lowers k p.words a.goes places C l

  pub plan_reduces : (K : ℕ) → Reduces k y w (reduced K k y w) ws (planned K (2 ^ k) y ws)
  unfolding reduced
  plan_reduces K =
      let r : Reducing = record { work = w; gone = [] } in
      let p = start (2 ^ k) (itself (2 ^ k) (2 ^ k) ws) in
      let a : Alike k y w ws r p = alike_start k y w ws room tabled units few in
      let b : Alike k y w ws (table_levels K k y 49 (crowded K r) 1 r) (all_levels K (2 ^ k) y p) =
      levels_alike k y w ws room tabled K 49 (crowded K r) (ltb K p.present) (ap (ltb K) (counted k y w ws r p a)) 1 r p a in
      rw (← planned_so K (2 ^ k) y ws room _ refl (all_levels K (2 ^ k) y p) refl) (alike_reduces (table_levels K k y 49 (crowded K r) 1 r) (all_levels K (2 ^ k) y p) b)
