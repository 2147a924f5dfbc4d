-- The call: its first reason to refuse, and what it leaves.
use mathlib.Core.Path.{◌≡◌, refl, sym, ap, subst, ◌∙◌}
use mathlib.Core.Bool.{false, ◌||◌, true≢false}
use mathlib.Core.List.{List, [], ◌∷◌, flat_map}
use Prim.Native.Nat.{ℕ, suc, ◌-◌, ◌*◌, ◌≤◌, ◌<◌}
use native.Mathlib.Omega.{arith}
use lib.Dec.{ltb}
use lib.ListN.{length, take, replicate, length-append, length-replicate}
use lib.Seq.{take_at}
use borrow.Author.Tests.{lt-ltb, le-ltb, ltb-false}
use Rattle.std.specs.Prelude.{Option, Some, None, Result, Ok, Err}
use Rattle.basics.proofs.Bools.{or_left, or_right, neither, not_left, not_right}
use Rattle.rules.specs.declared.Refusal.{Refusal}
use Rattle.rules.specs.declared.Refusal.TheVariants.{ListingRoom, Listing as NoListing, Expansion as TooLarge}
use Rattle.rules.specs.Answers.{first, verdict_says, Verdict}
use Rattle.rules.proofs.Refusals.{numbered, none_applies}
use Rattle.listing_form.specs.declared.Size.{Size}
use Rattle.listing.specs.declared.GraphSize.{GraphSize}
use Rattle.listing_form.specs.Listing.{Listing}
use Rattle.listing_form.specs.Reading.{Reading, found, broken, sequence_in, to_the_end, listing_of, is_broken, listing_in}
use Rattle.listing.specs.Expansion.{node_zero, open_node, expanded, graph_of, runs, lengths, accesses, flat}
use Rattle.listing_form.specs.Counting.{nodes_in, accesses_in, edges_in, capped, size_of, count_of}
use Rattle.listing.specs.Writing.{Rooms, written, sequence_at, Room, Ready, Wrote}
use Rattle.listing.specs.Call.{expansion_says, ExpandingLeft, listing_reasons, expanding_leaves, after_expanding}
use Rattle.listing_form.proofs.Counts.{unseen}
use Rattle.listing.proofs.Sizes.{nodes_added, accesses_added, edges_added, edges_by_nodes}
use Rattle.listing.proofs.Edges.{node_count}
use Rattle.listing.proofs.Shows.{Shows, follows, shows_start, flat_long}

-- ---- how large the graph is

pub graph_nodes : (s : Listing) → length (runs (graph_of s)) ≡ suc (nodes_in s)
unfolding graph_of
graph_nodes s = omega (arith, length-append (expanded s node_zero).earlier ((expanded s node_zero).current ∷ []), nodes_added s node_zero)

pub graph_edges : (s : Listing) → length (graph_of s).edges ≡ edges_in s
unfolding graph_of
graph_edges s = omega (arith, edges_added s node_zero)

pub graph_accesses : (s : Listing) → length (accesses (graph_of s)) ≡ accesses_in s
unfolding graph_of accesses flat_map
graph_accesses s = omega (arith, accesses_added s node_zero)

-- ---- the first reason

module _ (read : Reading) (n b e : ℕ) where
  pub few_runs : n < 64 → Err ListingRoom ≡ first (listing_reasons read n b e)
  unfolding listing_reasons
  few_runs h = rw (lt-ltb n 64 h)

  pub few_accesses : b < 4096 → Err ListingRoom ≡ first (listing_reasons read n b e)
  unfolding listing_reasons
  few_accesses h = rw (or_left (ltb n 64 || ltb b 4096) (ltb e 4032) (or_right (ltb n 64) _ (lt-ltb b 4096 h)))

  pub few_edges : e < 4032 → Err ListingRoom ≡ first (listing_reasons read n b e)
  unfolding listing_reasons
  few_edges h = rw (or_right (ltb n 64 || ltb b 4096) _ (lt-ltb e 4032 h))

  module _ (x : 64 ≤ n) (y : 4096 ≤ b) (z : 4032 ≤ e) where
    room : (ltb n 64 || ltb b 4096 || ltb e 4032) ≡ false
    room = neither (ltb n 64 || ltb b 4096) _ (neither (ltb n 64) _ (le-ltb n 64 x) (le-ltb b 4096 y)) (le-ltb e 4032 z)

    module _ (m : ℕ) (c : Option Size) (f : c ≡ count_of m read) where
      pub no_listing : c ≡ None → Err NoListing ≡ first (listing_reasons read n b e)
      unfolding listing_reasons
      no_listing g = rw (room, unseen m read c f g)

      module _ (s : Size) (g : c ≡ Some s) where
        good : (l : Listing) × (us : List ℕ) × (read ≡ found l us) × (s.nodes ≡ capped (nodes_in l)) × (s.accesses ≡ capped (accesses_in l))
        good = go read refl
          where
            go : (r : Reading) → read ≡ r → (l : Listing) × (us : List ℕ) × (read ≡ found l us) × (s.nodes ≡ capped (nodes_in l)) × (s.accesses ≡ capped (accesses_in l))
            go broken h = let z : ◌≡◌ {A = ℕ} 0 1 = cc (f, g, ap (count_of m) h) in absurd (omega arith)
            go (found l us) h =
                let same : s ≡ size_of l (m - length us) = cc (f, g, ap (count_of m) h) in
                (l, us, h, ap (λ s. s.nodes) same, ap (λ s. s.accesses) same)

        pub many_nodes : 63 < s.nodes → Err TooLarge ≡ first (listing_reasons read n b e)
        unfolding listing_reasons
        many_nodes h =
            let (l, us, is, p, q) = good in
            rw (room, is, or_left (ltb 64 (length (runs (graph_of l)))) _ (lt-ltb 64 (length (runs (graph_of l))) (omega (arith, graph_nodes l, p, h))))

        pub many_accesses : 4096 < s.accesses → Err TooLarge ≡ first (listing_reasons read n b e)
        unfolding listing_reasons
        many_accesses h =
            let (l, us, is, p, q) = good in
            rw (room, is, or_right (ltb 64 (length (runs (graph_of l)))) _ (lt-ltb 4096 (length (accesses (graph_of l))) (omega (arith, graph_accesses l, q, h))))

        pub accepted : s.nodes ≤ 63 → s.accesses ≤ 4096 → Ok tt ≡ first (listing_reasons read n b e)
        unfolding listing_reasons
        accepted h k =
            let (l, us, is, p, q) = good in
            rw (
              room,
              is,
              neither (ltb 64 (length (runs (graph_of l)))) _ (le-ltb 64 (length (runs (graph_of l))) (omega (arith, graph_nodes l, p, h)))
                  (le-ltb 4096 (length (accesses (graph_of l))) (omega (arith, graph_accesses l, q, k))),
            )

-- ---- what the call leaves

-- a refusal
pub refused_leaves : (ts ns bs es : List ℕ) (v : Verdict) (x : Refusal) → v ≡ first (listing_reasons (listing_of ts) (length ns) (length bs) (length es)) → v ≡ Err x
    → record { answer = Err x; runs = ns; accesses = bs; edges = es } ≡ after_expanding ts ns bs es
unfolding after_expanding
refused_leaves ts ns bs es v x e f = rw (← e, f)

-- what is left where nothing is refused: none of the reasons applies
pub record Checked (ts : List ℕ) (n b e : ℕ) : Type 0 where
  pub runs_room : 64 ≤ n
  pub accesses_room : 4096 ≤ b
  pub edges_room : 4032 ≤ e
  pub good : is_broken (listing_of ts) ≡ false
  pub few_nodes : nodes_in (listing_in (listing_of ts)) ≤ 63
  pub few_accesses : accesses_in (listing_in (listing_of ts)) ≤ 4096

pub checked : (ts : List ℕ) (n b e : ℕ) → Ok tt ≡ first (listing_reasons (listing_of ts) n b e) → Checked ts n b e
unfolding listing_reasons
checked ts n b e ok =
    let all = none_applies (listing_reasons (listing_of ts) n b e) (ap verdict_says (sym ok)) in
    let l = listing_in (listing_of ts) in
    let two = not_left (ltb n 64 || ltb b 4096) (ltb e 4032) all.0 in
    record {
      runs_room = omega (arith, ltb-false n 64 (not_left (ltb n 64) _ two));
      accesses_room = omega (arith, ltb-false b 4096 (not_right (ltb n 64) _ two));
      edges_room = omega (arith, ltb-false e 4032 (not_right (ltb n 64 || ltb b 4096) (ltb e 4032) all.0));
      good = all.1.0;
      few_nodes = omega (arith, graph_nodes l, ltb-false 64 (length (runs (graph_of l))) (not_left (ltb 64 (length (runs (graph_of l)))) _ all.1.1.0));
      few_accesses = omega (arith, graph_accesses l, ltb-false 4096 (length (accesses (graph_of l))) (not_right (ltb 64 (length (runs (graph_of l)))) _ all.1.1.0));
    }

-- all tokens are read
all_read : (r : Reading) → is_broken (to_the_end r) ≡ false → r ≡ found (listing_in (to_the_end r)) []
all_read broken e = absurd (true≢false e)
all_read (found s []) e = refl
all_read (found s (u ∷ us)) e = absurd (true≢false e)

pub is_listing : (ts : List ℕ) → is_broken (listing_of ts) ≡ false → listing_of ts ≡ found (listing_in (listing_of ts)) []
unfolding listing_of
is_listing ts h = ap to_the_end (all_read (sequence_in 8 ts) h)

-- the rooms at first: zeros, and node 0 is open
abbrev pub blank : List ℕ → List ℕ → List ℕ → Rooms
blank ns bs es = record { nodes = 1; many = 0; links = 0; run = 0; runs = ns; accesses = bs; edges = es }

module _ (ts ns bs es : List ℕ) (ok : Ok tt ≡ first (listing_reasons (listing_of ts) (length ns) (length bs) (length es))) (xs ys zs : List ℕ)
    (x : xs ≡ replicate (length ns) 0) (y : ys ≡ replicate (length bs) 0) (z : zs ≡ replicate (length es) 0) where
  is_read : sequence_at ts 0 ≡ found (listing_in (listing_of ts)) []
  unfolding listing_of
  is_read = all_read (sequence_in 8 ts) (checked ts (length ns) (length bs) (length es) ok).good

  few_edges_more : edges_in (listing_in (listing_of ts)) ≤ 84
  few_edges_more = omega (arith, edges_by_nodes (listing_in (listing_of ts)), (checked ts (length ns) (length bs) (length es) ok).few_nodes)

  pub start_ready : Ready (sequence_at ts 0) 0 (length ts) (blank xs ys zs)
  start_ready =
      let c = checked ts (length ns) (length bs) (length es) ok in
      record {
        good = ap is_broken is_read;
        inside = omega arith;
        room = subst (λ s. Room s (blank xs ys zs)) (sym (ap listing_in is_read)) (record {
          some = omega arith;
          nodes = omega (arith, c.few_nodes);
          accesses = omega (arith, c.few_accesses);
          edges = omega (arith, few_edges_more);
          run = omega arith;
          runs_room = rw (x, length-replicate {A = ℕ} (length ns) 0) c.runs_room;
          accesses_room = rw (y, length-replicate {A = ℕ} (length bs) 0) c.accesses_room;
          edges_room = rw (z, length-replicate {A = ℕ} (length es) 0) c.edges_room;
        });
      }

  shown : Shows (length ns) (length bs) (length es) (graph_of (listing_in (listing_of ts))) (written (listing_in (listing_of ts)) (blank xs ys zs))
  unfolding graph_of accesses flat_map
  shown =
      let c = checked ts (length ns) (length bs) (length es) ok in
      rw (x, y, z)
      (follows (length ns) (length bs) (length es) (listing_in (listing_of ts)) node_zero _ (shows_start (length ns) (length bs) (length es) (omega (arith, c.runs_room)))
      (record {
        nodes = omega (arith, c.few_nodes, c.runs_room);
        accesses = omega (arith, c.few_accesses, c.accesses_room);
        edges = omega (arith, few_edges_more, c.edges_room);
      }))

  pub accepted_leaves : (p : ℕ) (w : Rooms) → Wrote (sequence_at ts 0) (length ts) (blank xs ys zs) p w
      → record { answer = Ok (record { nodes = w.nodes; accesses = w.many; edges = w.links }); runs = w.runs; accesses = w.accesses; edges = w.edges } ≡ after_expanding ts ns bs es
  unfolding after_expanding
  accepted_leaves p w o = rw (← ok) (rw (h.nodes ∙ sym count, h.many, h.links, h.runs, h.accesses, h.edges))
    where
      h : Shows (length ns) (length bs) (length es) (graph_of (listing_in (listing_of ts))) w
      h = subst (Shows (length ns) (length bs) (length es) (graph_of (listing_in (listing_of ts)))) (sym (o.rooms ∙ ap (λ r. written (listing_in r) (blank xs ys zs)) is_read)) shown

      count : length (runs (graph_of (listing_in (listing_of ts)))) ≡ suc (open_node (graph_of (listing_in (listing_of ts))))
      count = omega (arith, length-append (graph_of (listing_in (listing_of ts))).earlier ((graph_of (listing_in (listing_of ts))).current ∷ []))

-- ---- what the answer says

-- where it says 0 nothing was refused
pub none_refused : (ts ns bs es : List ℕ) → (expansion_says (after_expanding ts ns bs es).answer).number ≡ 0
    → Ok tt ≡ first (listing_reasons (listing_of ts) (length ns) (length bs) (length es))
unfolding after_expanding
none_refused ts ns bs es h = go (first (listing_reasons (listing_of ts) (length ns) (length bs) (length es))) refl h
  where
    go : (v : Verdict) → first (listing_reasons (listing_of ts) (length ns) (length bs) (length es)) ≡ v
        → (expansion_says (expanding_leaves v (graph_of (listing_in (listing_of ts))) ns bs es).answer).number ≡ 0 → Ok tt ≡ first (listing_reasons (listing_of ts) (length ns) (length bs) (length es))
    go (Ok tt) e h = sym e
    go (Err r) e h = absurd (numbered r h)

-- ---- what a caller learns of the answer, who lent room enough

-- the answer is a graph of n nodes, b accesses and e edges, which stands at the front of the rooms
pub record Expanded (ts : List ℕ) (n b e : ℕ) (ns bs es : List ℕ) : Type 0 where
  pub accepted : first (listing_reasons (listing_of ts) 64 4096 4032) ≡ Ok tt
  pub runs : take n ns ≡ lengths (graph_of (listing_in (listing_of ts)))
  pub accesses : take b bs ≡ accesses (graph_of (listing_in (listing_of ts)))
  pub edges : take (e * 2) es ≡ flat (graph_of (listing_in (listing_of ts))).edges
  pub few_nodes : n ≤ 64
  pub few_accesses : b ≤ 4096
  pub few_edges : e ≤ 84

module _ (ts ns bs es : List ℕ) (x : 64 ≤ length ns) (y : 4096 ≤ length bs) (z : 4032 ≤ length es) (a : Result GraphSize Refusal) (ns' bs' es' : List ℕ)
    (left : record { answer = a; runs = ns'; accesses = bs'; edges = es' } ≡ after_expanding ts ns bs es) where
  -- more room than is needed changes nothing
  same_reasons : first (listing_reasons (listing_of ts) 64 4096 4032) ≡ first (listing_reasons (listing_of ts) (length ns) (length bs) (length es))
  unfolding listing_reasons
  same_reasons = rw (room (listing_of ts) (length ns) (length bs) (length es) x y z)

  pub expansion_refused : (why : Refusal) → a ≡ Err why → first (listing_reasons (listing_of ts) 64 4096 4032) ≡ Err why
  unfolding after_expanding
  expansion_refused why e = go (first (listing_reasons (listing_of ts) (length ns) (length bs) (length es))) refl left
    where
      go : (v : Verdict) → first (listing_reasons (listing_of ts) (length ns) (length bs) (length es)) ≡ v
          → record { answer = a; runs = ns'; accesses = bs'; edges = es' } ≡ expanding_leaves v (graph_of (listing_in (listing_of ts))) ns bs es
          → first (listing_reasons (listing_of ts) 64 4096 4032) ≡ Err why
      go (Ok tt) q k = absurd (numbered why (ap (λ (b : Result GraphSize Refusal). (expansion_says b).number) (sym e ∙ ap (λ (b : ExpandingLeft). b.answer) k)))
      go (Err r) q k =
          let told : Err r ≡ Err why = sym (ap (λ (b : ExpandingLeft). b.answer) k) ∙ e in
          let same : r ≡ why = cc in
          same_reasons ∙ q ∙ ap Err same

  -- and the rooms are as they were
  pub expansion_kept : (why : Refusal) → a ≡ Err why → (ns' ≡ ns) × (bs' ≡ bs) × (es' ≡ es)
  unfolding after_expanding
  expansion_kept why e =
      let left_so = left ∙ ap (λ (v : Verdict). expanding_leaves v (graph_of (listing_in (listing_of ts))) ns bs es) (sym same_reasons ∙ expansion_refused why e) in
      (ap (λ (d : ExpandingLeft). d.runs) left_so, ap (λ (d : ExpandingLeft). d.accesses) left_so, ap (λ (d : ExpandingLeft). d.edges) left_so)

  pub expansion_shown : (g : GraphSize) → a ≡ Ok g → Expanded ts g.nodes g.accesses g.edges ns' bs' es'
  unfolding after_expanding
  expansion_shown g is = go (first (listing_reasons (listing_of ts) (length ns) (length bs) (length es))) refl left
    where
      s : Listing
      s = listing_in (listing_of ts)

      go : (v : Verdict) → first (listing_reasons (listing_of ts) (length ns) (length bs) (length es)) ≡ v
          → record { answer = a; runs = ns'; accesses = bs'; edges = es' } ≡ expanding_leaves v (graph_of (listing_in (listing_of ts))) ns bs es
          → Expanded ts g.nodes g.accesses g.edges ns' bs' es'
      go (Err r) q k = absurd (numbered r (ap (λ (b : Result GraphSize Refusal). (expansion_says b).number) (sym (ap (λ (b : ExpandingLeft). b.answer) k) ∙ is)))
      go (Ok tt) q k =
          let c = checked ts (length ns) (length bs) (length es) (sym q) in
          let told : Ok g ≡ (expanding_leaves (Ok tt) (graph_of s) ns bs es).answer = sym is ∙ ap (λ (b : ExpandingLeft). b.answer) k in
          let nodes : g.nodes ≡ length (runs (graph_of s)) = ap (λ (b : Result GraphSize Refusal). (expansion_says b).nodes) told in
          let many : g.accesses ≡ length (accesses (graph_of s)) = ap (λ (b : Result GraphSize Refusal). (expansion_says b).accesses) told in
          let links : g.edges ≡ length (graph_of s).edges = ap (λ (b : Result GraphSize Refusal). (expansion_says b).edges) told in
          record {
            accepted = same_reasons ∙ q;
            runs = ap (λ (b : ExpandingLeft). take g.nodes b.runs) k ∙ take_at (lengths (graph_of s)) _ g.nodes (omega (arith, nodes, node_count (graph_of s), length-append (graph_of s).earlier ((graph_of s).current ∷ [])));
            accesses = ap (λ (d : ExpandingLeft). take g.accesses d.accesses) k ∙ take_at (accesses (graph_of s)) _ g.accesses (sym many);
            edges = ap (λ (b : ExpandingLeft). take (g.edges * 2) b.edges) k ∙ take_at (flat (graph_of s).edges) _ (g.edges * 2) (omega (arith, links, flat_long (graph_of s).edges));
            few_nodes = omega (arith, nodes, graph_nodes s, c.few_nodes);
            few_accesses = omega (arith, many, graph_accesses s, c.few_accesses);
            few_edges = omega (arith, links, graph_edges s, edges_by_nodes s, c.few_nodes);
          }
