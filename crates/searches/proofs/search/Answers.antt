-- `search` searches twice, the second search nested in the first.
use mathlib.Core.Path.{refl, sym, ap, ◌∙◌}
use Prim.Native.Nat.{◌≤◌}
use native.Mathlib.Numerals.{add-one}
use native.Mathlib.Omega.{arith}
use lib.ListN.{length}
use borrow.Author.Rules.{rules}
use Rattle.words.specs.Tables.{table_of}
use Rattle.words.proofs.Tables.{fits_table}
use Rattle.searches.specs.Searches.{is_alike, first_alike}
use Rattle.searches.proofs.Lowest.{lowest_within, lowest_turn, lowest_found}
use Rattle.searches.proofs.Seeking.{first_here, first_on, first_none}
use Rattle.searches.proofs.Chosen.{chosen_of_all, chosen_alike, chosen_nearest}
use Rattle.searches.proofs.search.Goals as goal

pub load-s-requires : goal.load-s-requires
load-s-requires c = omega (arith, lowest_within _ _ _ _ c.search.invariant)

pub overflow_add-fewest : goal.overflow_add-fewest
overflow_add-fewest c =
    omega (arith, lowest_within _ _ _ _ c.search.invariant, c.ranges)

pub search-smaller : goal.search-smaller
search-smaller c = omega (arith, lowest_within _ _ _ _ c.search.invariant)

pub search-preserved : goal.search-preserved
search-preserved c =
    lowest_turn _ _ _ _ c.search.invariant _ c.load-s.ensures c.if-units-u.true

pub stands_first-requires : goal.stands_first-requires
stands_first-requires c = omega (arith, lowest_within _ _ _ _ c.search.invariant)

pub loop-j-init : goal.loop-j-init
unfolding first_alike
loop-j-init c = rw (add-one c.search.fewest) refl

pub nearest-requires : goal.nearest-requires
nearest-requires c =
    (search rules, lowest_within _ _ _ _ c.search.invariant, search rules)

pub loop-j-preserved : goal.loop-j-preserved
loop-j-preserved c =
    sym (first_on _ c.loop-j.j c.loop-j-test.true _ (sym (c.is_alike.ensures ∙ ap (is_alike c.load-s.result) c.load.ensures) ∙ c.if-is_alike.false)) ∙ c.loop-j.invariant

pub returns-then-not-stands_first : goal.returns-then-not-stands_first
returns-then-not-stands_first c =
    let a = c.args in
    let t = table_of a.words.now in
    let room : a.n ≤ length t = fits_table a.words.now a.n (omega arith) in
    chosen_of_all a.n t _ c.search.fewest c.load-s.ensures (lowest_found _ _ _ _ c.search.invariant _ c.load-s.ensures room c.if-units-u.false) _
    c.stands_first.ensures _ _ (c.if-not-stands_first.true) c.size_of.ensures c.nearest_of_all.ensures

pub returns-after-loop-j : goal.returns-after-loop-j
returns-after-loop-j c =
    let a = c.args in
    let t = table_of a.words.now in
    let room : a.n ≤ length t = fits_table a.words.now a.n (omega arith) in
    chosen_nearest a.n t _ c.search.fewest c.load-s.ensures (lowest_found _ _ _ _ c.search.invariant _ c.load-s.ensures room c.if-units-u.false) _
    c.stands_first.ensures (c.if-not-stands_first.false) c.loop-j.j (sym (first_none _ c.loop-j.j c.loop-j-test.false _) ∙ c.loop-j.invariant)
    c.loop-j-test.false _ c.nearest.ensures

pub returns-then-is_alike : goal.returns-then-is_alike
returns-then-is_alike c =
    let a = c.args in
    let t = table_of a.words.now in
    let room : a.n ≤ length t = fits_table a.words.now a.n (omega arith) in
    let s = c.load-s.result in
    chosen_alike a.n t s c.search.fewest c.load-s.ensures (lowest_found _ _ _ _ c.search.invariant _ c.load-s.ensures room c.if-units-u.false) _
    c.stands_first.ensures (c.if-not-stands_first.false) c.loop-j.j
    (sym (first_here _ c.loop-j.j c.loop-j-test.true _ (sym (c.is_alike.ensures ∙ ap (is_alike s) c.load.ensures) ∙ c.if-is_alike.true)) ∙ c.loop-j.invariant)
    c.loop-j-test.true

pub search-init : goal.search-init
search-init c = c.least-lowest.ensures
