-- What a graph's paths from node 0 to a node access, and what each step of an expansion does to it.
use mathlib.Core.Path.{◌≡◌, refl, sym, ap, ◌∙◌}
use mathlib.Core.Logic.{⊎_elim, ◌↔◌}
use mathlib.Core.Bool.{Bool, true, false, ◌||◌, ◌&&◌, true≢false}
use mathlib.Core.List.{List, [], ◌∷◌, ◌++◌, append-nil, append_assoc}
use Prim.Native.Nat.{ℕ, suc, ◌≤◌, ◌<◌}
use native.Mathlib.Nat.{le_refl}
use native.Mathlib.Omega.{arith}
use lib.Dec.{eqb}
use lib.ListN.{get_or, length-append, get_or-append}
use lib.Seq.{get_or-append_seam}
use borrow.Author.Tests.{eq-eqb, eqb-true}
use Rattle.basics.proofs.Bools.{and_left, and_right, or_left, or_cases, not_both, neither}
use Rattle.rules.specs.Contents.{among}
use Rattle.rules.specs.Shape.{Every}
use Rattle.rules.specs.Input.{Edge}
use Rattle.promises.specs.Paths.{linked}
use Rattle.listing.specs.Expansion.{Graph, open_node, accessed, edges_to, opened, runs}
use Rattle.listing.specs.Runs.{Then}
use Rattle.listing.proofs.Sizes.{opened_node}
use Rattle.listing.proofs.Edges.{Ahead, Good}

-- a path from node 0 to node j accesses x: it is node 0's run, or a path to a node with an edge to j, and j's run behind it
pub data Reached (es : List Edge) (run : ℕ → List ℕ) : ℕ → List ℕ → Type 0 where
  begun : {j : ℕ} {x : List ℕ} → j ≡ 0 → x ≡ run 0 → Reached es run j x
  onward : {j : ℕ} {x : List ℕ} (a : ℕ) (y : List ℕ) → Reached es run a y → linked es a j ≡ true → x ≡ y ++ run j → Reached es run j x

-- node j's run
abbrev pub run_at : Graph → ℕ → List ℕ
run_at g j = get_or (runs g) j []

-- x is accessed on the way to node j
abbrev pub At : Graph → ℕ → List ℕ → Type 0
At g j x = Reached g.edges (run_at g) j x

-- ---- edges

pub linked_both : (es ds : List Edge) (a b : ℕ) → linked (es ++ ds) a b ≡ (linked es a b || linked ds a b)
linked_both [] ds a b = refl
linked_both (e ∷ es) ds a b = go (eqb e.from a && eqb e.to b) (linked_both es ds a b)
  where
    go : (t : Bool) → linked (es ++ ds) a b ≡ (linked es a b || linked ds a b) → (t || linked (es ++ ds) a b) ≡ ((t || linked es a b) || linked ds a b)
    go true h = refl
    go false h = h

-- an edge leads to a higher node, which is not beyond the open one
pub linked_ahead : (o : ℕ) (es : List Edge) → Every (Ahead o) es → (a b : ℕ) → linked es a b ≡ true → (a < b) × (b ≤ o)
linked_ahead o [] h a b l = absurd (true≢false (sym l))
linked_ahead o (e ∷ es) h a b l =
    ⊎_elim
    (λ p. let f = eqb-true e.from a (and_left (eqb e.from a) _ p) in
    let t = eqb-true e.to b (and_right (eqb e.from a) _ p) in
    (omega (arith, f, t, h.0.0), omega (arith, t, h.0.1)))
    (λ p. linked_ahead o es h.1 a b p)
    (or_cases (eqb e.from a && eqb e.to b) _ l)

-- edges to node k come from the listed nodes, and lead nowhere else
pub linked_to : (k : ℕ) (froms : List ℕ) (a : ℕ) → linked (edges_to k froms) a k ≡ among froms a
linked_to k [] a = refl
linked_to k (b ∷ froms) a = go (eqb b a) (linked_to k froms a)
  where
    go : (t : Bool) → linked (edges_to k froms) a k ≡ among froms a → (t && eqb k k || linked (edges_to k froms) a k) ≡ (t || among froms a)
    go true h = or_left (eqb k k) _ (eq-eqb k k refl)
    go false h = h

pub linked_elsewhere : (k : ℕ) (froms : List ℕ) (a b : ℕ) → (k ≡ b → ⊥) → linked (edges_to k froms) a b ≡ false
linked_elsewhere k [] a b h = refl
linked_elsewhere k (c ∷ froms) a b h =
    neither (eqb c a && eqb k b) _ (not_both (eqb c a) _ (λ x y. h (eqb-true k b y))) (linked_elsewhere k froms a b h)

-- ---- where two graphs agree up to node k, so do their paths to it

module _ (es ds : List Edge) (run turn : ℕ → List ℕ) (k : ℕ) (rising : (a b : ℕ) → linked es a b ≡ true → a < b)
    (same : (a b : ℕ) → b ≤ k → linked es a b ≡ linked ds a b) (runs_same : (j : ℕ) → j ≤ k → run j ≡ turn j) where
  pub carried : {j : ℕ} {x : List ℕ} → j ≤ k → Reached es run j x → Reached ds turn j x
  carried l (begun z e) = begun z (e ∙ runs_same 0 (omega arith))
  carried {j} l (onward a y r e q) =
      onward a y (carried (omega (arith, rising a j e)) r) (sym (same a j l) ∙ e) (q ∙ ap (y ++◌) (runs_same j l))

-- ---- runs

pub run_earlier : (g : Graph) (j : ℕ) → j < open_node g → run_at g j ≡ get_or g.earlier j []
run_earlier g j l = get_or-append g.earlier (g.current ∷ []) [] j l

pub run_current : (g : Graph) → run_at g (open_node g) ≡ g.current
run_current g = get_or-append_seam g.earlier g.current [] []

-- ---- an access

module _ (b : ℕ) (g : Graph) (ok : Good g) where
  lower : (a c : ℕ) → linked g.edges a c ≡ true → a < c
  lower a c l = (linked_ahead (open_node g) g.edges ok.ahead a c l).0

  same_below : (j : ℕ) → j < open_node g → run_at g j ≡ run_at (accessed b g) j
  unfolding accessed
  same_below j l = run_earlier g j l ∙ sym (run_earlier (accessed b g) j l)

  pub access_keeps : (j : ℕ) → j < open_node g → (x : List ℕ) → At g j x ↔ At (accessed b g) j x
  unfolding accessed
  access_keeps j l x = (
    carried g.edges g.edges (run_at g) (run_at (accessed b g)) j lower (λ a c m. refl) (λ i m. same_below i (omega arith)) (le_refl j),
    carried g.edges g.edges (run_at (accessed b g)) (run_at g) j lower (λ a c m. refl) (λ i m. sym (same_below i (omega arith))) (le_refl j),
  )

  -- the open node's run has the access at its end
  run_grown : run_at (accessed b g) (open_node g) ≡ run_at g (open_node g) ++ b ∷ []
  unfolding accessed
  run_grown = run_current (accessed b g) ∙ ap (◌++ (b ∷ [])) (sym (run_current g))

  -- and so has what is accessed on the way to it
  pub access_there : (x : List ℕ) → At (accessed b g) (open_node g) x → Then (At g (open_node g)) (λ z. z ≡ b ∷ []) x
  unfolding Then accessed
  access_there x (begun z e) =
      (run_at g 0, b ∷ [], e ∙ ap (run_at (accessed b g)) (sym z) ∙ run_grown ∙ ap (λ j. run_at g j ++ b ∷ []) z, begun z refl, refl)
  access_there x (onward a y r e q) = (
    y ++ run_at g (open_node g),
    b ∷ [],
    q ∙ ap (y ++◌) run_grown ∙ sym (append_assoc y (run_at g (open_node g)) (b ∷ [])),
    onward a y ((access_keeps a (lower a (open_node g) e) y).1 r) e refl,
    refl,
  )

  pub access_back : (x y : List ℕ) → x ≡ y ++ b ∷ [] → At g (open_node g) y → At (accessed b g) (open_node g) x
  unfolding accessed
  access_back x y e (begun z q) =
      begun z (e ∙ ap (◌++ (b ∷ [])) q ∙ ap (λ j. run_at g j ++ b ∷ []) (sym z) ∙ sym run_grown ∙ ap (run_at (accessed b g)) z)
  access_back x y e (onward a w r l q) =
      onward a w ((access_keeps a (lower a (open_node g) l) w).0 r) l
      (e ∙ ap (◌++ (b ∷ [])) q ∙ append_assoc w (run_at g (open_node g)) (b ∷ []) ∙ ap (w ++◌) (sym run_grown))

-- ---- a new node

or_none : (a : Bool) → (a || false) ≡ a
or_none true = refl
or_none false = refl

module _ (froms : List ℕ) (g : Graph) (ok : Good g) (also : Good (opened froms g)) where
  linked_old : (a b : ℕ) → b ≤ open_node g → linked g.edges a b ≡ linked (opened froms g).edges a b
  unfolding opened
  linked_old a b l =
      sym (linked_both g.edges (edges_to (suc (open_node g)) froms) a b ∙ rw (linked_elsewhere (suc (open_node g)) froms a b (λ q. omega (arith, q, l)))
      (or_none (linked g.edges a b)))

  run_old : (j : ℕ) → j ≤ open_node g → run_at g j ≡ run_at (opened froms g) j
  unfolding opened
  run_old j l =
      sym (get_or-append (g.earlier ++ g.current ∷ []) ([] ∷ []) [] j (omega (arith, l, length-append g.earlier (g.current ∷ []))))

  run_new : run_at (opened froms g) (suc (open_node g)) ≡ []
  unfolding opened
  run_new = ap (run_at (opened froms g)) (sym (opened_node froms g)) ∙ run_current (opened froms g)

  lower_old : (a b : ℕ) → linked g.edges a b ≡ true → a < b
  lower_old a b l = (linked_ahead (open_node g) g.edges ok.ahead a b l).0

  lower_new : (a b : ℕ) → linked (opened froms g).edges a b ≡ true → a < b
  lower_new a b l = (linked_ahead (open_node (opened froms g)) (opened froms g).edges also.ahead a b l).0

  pub open_keeps : (j : ℕ) → j ≤ open_node g → (x : List ℕ) → At g j x ↔ At (opened froms g) j x
  open_keeps j l x = (
    carried g.edges (opened froms g).edges (run_at g) (run_at (opened froms g)) j lower_old (λ a c m. linked_old a c (omega arith)) (λ i m. run_old i (omega arith)) (le_refl j),
    carried (opened froms g).edges g.edges (run_at (opened froms g)) (run_at g) j lower_new (λ a c m. sym (linked_old a c (omega arith))) (λ i m. sym (run_old i (omega arith))) (le_refl j),
  )

  -- an edge to the new node comes from a listed one
  linked_new : (a : ℕ) → linked (opened froms g).edges a (suc (open_node g)) ≡ among froms a
  unfolding opened
  linked_new a =
      linked_both g.edges (edges_to (suc (open_node g)) froms) a (suc (open_node g)) ∙ rw (none a, linked_to (suc (open_node g)) froms a)
    where
      none : (a : ℕ) → linked g.edges a (suc (open_node g)) ≡ false
      none a = go (linked g.edges a (suc (open_node g))) refl
        where
          go : (t : Bool) → linked g.edges a (suc (open_node g)) ≡ t → linked g.edges a (suc (open_node g)) ≡ false
          go true e = absurd (omega (arith, (linked_ahead (open_node g) g.edges ok.ahead a (suc (open_node g)) e).1))
          go false e = e

  -- what is accessed on the way to it is what is accessed on the way to one of those
  pub new_there : (x : List ℕ) → At (opened froms g) (suc (open_node g)) x → (a : ℕ) × (among froms a ≡ true) × At g a x
  new_there x (begun z e) = absurd (omega (arith, z))
  new_there x (onward a y r e q) = (
    a,
    sym (linked_new a) ∙ e,
    rw (q ∙ ap (y ++◌) run_new ∙ append-nil y) ((open_keeps a (omega (arith, lower_new a (suc (open_node g)) e)) y).1 r),
  )

  pub new_back : (x : List ℕ) (a : ℕ) → among froms a ≡ true → At g a x → At (opened froms g) (suc (open_node g)) x
  new_back x a m r =
      onward a x ((open_keeps a (omega (arith, lower_new a (suc (open_node g)) (linked_new a ∙ m))) x).0 r) (linked_new a ∙ m)
      (sym (append-nil x) ∙ ap (x ++◌) (sym run_new))
