-- The laws of the second pass: for each call what it asks, and for each return what was written.
use mathlib.Core.Path.{◌≡◌, refl, sym, ap, subst, ◌∙◌}
use mathlib.Core.Bool.{Bool, true, false, cond, true≢false}
use mathlib.Core.List.{List}
use Prim.Native.Nat.{ℕ, suc, ◌+◌, ◌-◌, ◌≤◌, ◌<◌}
use native.Mathlib.Numerals.{add-one}
use native.Mathlib.Omega.{arith}
use lib.Dec.{eqb}
use lib.ListN.{length, get_or, drop, length-drop}
use borrow.Author.Tests.{ne_eqb}
use Rattle.listing_form.specs.Listing.{Listing, end, access, branch, loop, followed_by}
use Rattle.listing_form.specs.Reading.{kind_of, item, sequence_in, a_loop, nothing, is_broken, listing_in, place_in}
use Rattle.listing.specs.Expansion.{times}
use Rattle.listing_form.specs.Counting.{nodes_in, accesses_in, begins_item}
use Rattle.listing.specs.Writing.{Rooms, access_written, arm_opened, join_opened, written, AccessFits, Fits, sequence_at, item_at, branch_at, loop_at, Room, Ready, ArmReady, RoundsReady, Wrote}
use Rattle.listing_form.proofs.Counts.{stop_here}
use Rattle.listing.proofs.Inside.{Next, next_item, InAccess, in_access, end_of, InBranch, in_branch, InLoop, in_loop}
use Rattle.listing.proofs.Rooms.{written_join, room_item, room_rest, fits_first, room_left, fits_second, room_right, fits_join, no_rounds, times_last, room_round, room_others, idle_rounds}

-- ---- a sequence, item by item

-- from place a, where the rooms were w, the pass has come to place p, where they are v: what is left gives the whole
pub record Going (ts : List ℕ) (a : ℕ) (w : Rooms) (p : ℕ) (v : Rooms) : Type 0 where
  pub ready : Ready (sequence_at ts p) p (length ts) v
  pub whole : written (listing_in (sequence_at ts p)) v ≡ written (listing_in (sequence_at ts a)) w
  pub place : end_of ts p ≡ end_of ts a
  pub from : a ≤ p

pub going_start : (ts : List ℕ) (a : ℕ) (w : Rooms) → Ready (sequence_at ts a) a (length ts) w → Going ts a w a w
going_start ts a w h = record { ready = h; whole = refl; place = refl; from = omega arith }

module _ (ts : List ℕ) (a : ℕ) (w : Rooms) (p : ℕ) (v : Rooms) (g : Going ts a w p v) where
  -- no item begins: all is written
  pub going_end : false ≡ begins_item (kind_of (get_or ts p 0)) → Wrote (sequence_at ts a) (length ts) w p v
  unfolding written
  going_end e =
      let stop = stop_here ts p 8 e in
      record {
        place = sym (ap (place_in (length ts)) stop ∙ rw (length-drop p ts) (omega (arith, g.ready.inside))) ∙ g.place;
        rooms = sym (ap (λ r. written (listing_in r) v) stop) ∙ g.whole;
      }

  module _ (e : true ≡ begins_item (kind_of (get_or ts p 0))) where
    next : Next ts p
    next = next_item ts p e g.ready.good

    room_both : Room (followed_by (listing_in (item_at ts p)) (listing_in (sequence_at ts (place_in (length ts) (item_at ts p))))) v
    room_both = subst (λ s. Room s v) next.joined g.ready.room

    pub item_inside : p < length ts
    item_inside = next.inside

    pub item_ready : Ready (item_at ts p) (p + 1) (length ts) v
    item_ready = record { good = next.good; inside = omega (arith, next.inside); room = room_item (listing_in (item_at ts p)) _ v room_both }

    there : Going ts a w (place_in (length ts) (item_at ts p)) (written (listing_in (item_at ts p)) v)
    there =
        record {
          ready = record { good = next.rest_good; inside = next.place; room = room_rest (listing_in (item_at ts p)) _ v room_both };
          whole = sym (written_join (listing_in (item_at ts p)) _ v) ∙ ap (λ s. written s v) (sym next.joined) ∙ g.whole;
          place = next.rest_place ∙ g.place;
          from = omega (arith, g.from, next.further);
        }

    pub going_next : (q : ℕ) (u : Rooms) → Wrote (item_at ts p) (length ts) v q u → (p < q) × Going ts a w q u
    going_next q u h = (omega (arith, h.place, next.further), subst (λ q. Going ts a w q u) (sym h.place) (subst (Going ts a w _) (sym h.rooms) there))

-- ---- an item, by its first token

module _ (ts : List ℕ) (a : ℕ) (w : Rooms) (h : Ready (item_at ts a) (a + 1) (length ts) w) where
  module _ (e : get_or ts a 0 ≡ 1) where
    one : InAccess ts a
    one = in_access ts a e h.good

    one_room : Room (access (get_or ts (a + 1) 0) end) w
    one_room = subst (λ s. Room s w) one.listing h.room

    pub block_inside : a + 1 < length ts
    block_inside = one.block

    pub access_fits : AccessFits w.nodes w.many w.run (length w.runs) (length w.accesses)
    unfolding nodes_in accesses_in
    access_fits =
        let r = one_room in
        record {
          some = r.some;
          node = omega (arith, r.nodes, r.runs_room);
          access = omega (arith, r.accesses, r.accesses_room);
          within = r.run;
          few = omega (arith, r.accesses);
        }

    pub access_wrote : (u : Rooms) → u ≡ access_written (get_or ts (a + 1) 0) w → Wrote (item_at ts a) (length ts) w (a + 2) u
    unfolding written
    access_wrote u r = record { place = sym one.place; rooms = r ∙ ap (λ s. written s w) (sym one.listing) }

  branch_here : get_or ts a 0 ≡ 2 → item_at ts a ≡ branch_at ts a
  unfolding kind_of
  branch_here e = rw e

  pub branch_ready : get_or ts a 0 ≡ 2 → Ready (branch_at ts a) (a + 1) (length ts) w
  branch_ready e = subst (λ r. Ready r (a + 1) (length ts) w) (branch_here e) h

  pub branch_wrote : get_or ts a 0 ≡ 2 → (q : ℕ) (u : Rooms) → Wrote (branch_at ts a) (length ts) w q u → Wrote (item_at ts a) (length ts) w q u
  branch_wrote e q u = subst (λ r. Wrote r (length ts) w q u) (sym (branch_here e))

  loop_here : (get_or ts a 0 ≡ 1 → ⊥) → (get_or ts a 0 ≡ 2 → ⊥) → item_at ts a ≡ loop_at ts a
  unfolding kind_of item
  loop_here f k = rw (ne_eqb (get_or ts a 0) 1 f, ne_eqb (get_or ts a 0) 2 k) (go (eqb (get_or ts a 0) 5) refl)
    where
      go : (b : Bool) → eqb (get_or ts a 0) 5 ≡ b → item sequence_in 8 (cond b a_loop nothing) (drop (a + 1) ts) ≡ loop_at ts a
      go true e = refl
      go false e = absurd (true≢false (sym none ∙ h.good))
        where
          none : is_broken (item_at ts a) ≡ true
          none = rw (ne_eqb (get_or ts a 0) 1 f, ne_eqb (get_or ts a 0) 2 k, e)

  module _ (f : get_or ts a 0 ≡ 1 → ⊥) (k : get_or ts a 0 ≡ 2 → ⊥) where
    pub loop_ready : Ready (loop_at ts a) (a + 1) (length ts) w
    loop_ready = subst (λ r. Ready r (a + 1) (length ts) w) (loop_here f k) h

    pub loop_wrote : (q : ℕ) (u : Rooms) → Wrote (loop_at ts a) (length ts) w q u → Wrote (item_at ts a) (length ts) w q u
    loop_wrote q u = subst (λ r. Wrote r (length ts) w q u) (sym (loop_here f k))

-- ---- a branch

module _ (ts : List ℕ) (a : ℕ) (w : Rooms) (h : Ready (branch_at ts a) (a + 1) (length ts) w) where
  arms : InBranch ts a
  arms = in_branch ts a (omega (arith, h.inside)) h.good

  abbrev left : Listing
  left = listing_in (sequence_at ts (a + 1))

  abbrev right : Listing
  right = listing_in (sequence_at ts (end_of ts (a + 1) + 1))

  room : Room (branch left right end) w
  room = subst (λ s. Room s w) arms.listing h.room

  pub first_inside : a < length ts
  first_inside = omega (arith, h.inside)

  pub first_ready : ArmReady ts (a + 1) (w.nodes - 1) w
  first_ready =
      record {
        fits = fits_first left right w room;
        ready = record { good = arms.left_good; inside = omega (arith, arms.left_from, arms.left_to_fact); room = room_left left right w room };
      }

  -- the first arm is written: the pass is at place q, and the rooms are u
  module _ (q : ℕ) (u : Rooms) (wl : Wrote (sequence_at ts (a + 1)) (length ts) (arm_opened (w.nodes - 1) w) q u) where
    pub second_inside : (a < q) × (q < length ts)
    second_inside = (omega (arith, wl.place, arms.left_from), omega (arith, wl.place, arms.left_to_fact))

    second_place : q + 1 ≡ end_of ts (a + 1) + 1
    second_place = ap (◌+ 1) wl.place

    pub second_ready : ArmReady ts (q + 1) (w.nodes - 1) u
    second_ready =
        rw (second_place, wl.rooms) (record {
          fits = fits_second left right w room;
          ready = record { good = arms.right_good; inside = omega (arith, arms.right_from, arms.right_to_fact); room = room_right left right w room };
        })

    -- the second is written: the pass is at place z, and the rooms are v
    module _ (z : ℕ) (v : Rooms) (wr : Wrote (sequence_at ts (q + 1)) (length ts) (arm_opened (w.nodes - 1) u) z v) where
      right_place : z ≡ end_of ts (end_of ts (a + 1) + 1)
      right_place = wr.place ∙ ap (end_of ts) second_place

      right_rooms : v ≡ written right (arm_opened (w.nodes - 1) (written left (arm_opened (w.nodes - 1) w)))
      right_rooms = wr.rooms ∙ rw (second_place, wl.rooms)

      pub join_fits : Fits (u.nodes - 1) 2 v.nodes v.links (length v.edges)
      join_fits = rw (right_rooms, wl.rooms) (fits_join left right w room)

      pub branch_done : (d : Rooms) → d ≡ join_opened (u.nodes - 1) v → Wrote (branch_at ts a) (length ts) w (z + 1) d
      unfolding written
      branch_done d n =
          record {
            place = ap (◌+ 1) right_place ∙ sym arms.place;
            rooms = rw arms.listing (n ∙ rw (wl.rooms, right_rooms));
          }

-- ---- rounds of the sequence at a place

module _ (ts : List ℕ) (p n : ℕ) (w : Rooms) (h : RoundsReady ts p n w) where
  abbrev body : Listing
  body = listing_in (sequence_at ts p)

  -- k rounds are written
  module _ (k : ℕ) (v : Rooms) (so_far : v ≡ times k (written body) w) where
    pub round_ready : k < n → Ready (sequence_at ts p) p (length ts) v
    round_ready m = rw so_far (record { good = h.good; inside = h.inside; room = room_round n body w h.room k m })

    pub round_done : (q : ℕ) (u : Rooms) → Wrote (sequence_at ts p) (length ts) v q u → u ≡ times (k + 1) (written body) w
    round_done q u o = o.rooms ∙ ap (written body) so_far ∙ times_last k (written body) w ∙ ap (λ k. times k (written body) w) (sym (add-one k))

-- ---- a loop

module _ (ts : List ℕ) (a : ℕ) (w : Rooms) (h : Ready (loop_at ts a) (a + 1) (length ts) w) where
  in_it : InLoop ts a
  in_it = in_loop ts a (omega (arith, h.inside)) h.good

  abbrev run : Listing
  run = listing_in (sequence_at ts (a + 2))

  abbrev count : ℕ
  count = get_or ts (a + 1) 0

  loop_room : Room (loop count run end) w
  loop_room = subst (λ s. Room s w) in_it.listing h.room

  pub count_inside : a + 1 < length ts
  count_inside = in_it.count_inside

  pub some_rounds : 1 ≤ get_or ts (a + 1) 0
  some_rounds = in_it.some

  pub once_ready : Ready (sequence_at ts (a + 2)) (a + 2) (length ts) w
  once_ready =
      record {
        good = in_it.body_good;
        inside = omega (arith, in_it.body_from, in_it.body_to);
        room = subst (Room run) (no_rounds (written run) w) (room_round count run w loop_room 0 in_it.some);
      }

  -- the first round is written: the pass is at place q, and the rooms are u
  module _ (q : ℕ) (u : Rooms) (o : Wrote (sequence_at ts (a + 2)) (length ts) w q u) where
    pub others_ready : RoundsReady ts (a + 2) (get_or ts (a + 1) 0 - 1) u
    others_ready = rw o.rooms (record { good = in_it.body_good; inside = omega (arith, in_it.body_from, in_it.body_to); room = room_others count run w loop_room in_it.some })

    all_rounds : (d : Rooms) → d ≡ times (get_or ts (a + 1) 0) (written run) w → Wrote (loop_at ts a) (length ts) w (q + 1) d
    unfolding written
    all_rounds d f = record { place = ap (◌+ 1) o.place ∙ sym in_it.place; rooms = f ∙ ap (λ s. written s w) (sym in_it.listing) }

    -- it added nothing
    pub loop_idle : u.nodes ≡ w.nodes → u.many ≡ w.many → Wrote (loop_at ts a) (length ts) w (q + 1) u
    loop_idle i j =
        all_rounds u (o.rooms ∙ idle_rounds (get_or ts (a + 1) 0) run w (ap (λ w. w.nodes) (sym o.rooms) ∙ i) (ap (λ w. w.many) (sym o.rooms) ∙ j))

    -- the others are written behind it
    pub loop_done : (d : Rooms) → d ≡ times (get_or ts (a + 1) 0 - 1) (written run) u → Wrote (loop_at ts a) (length ts) w (q + 1) d
    unfolding times
    loop_done d f =
        let back : suc (get_or ts (a + 1) 0 - 1) ≡ get_or ts (a + 1) 0 = omega (arith, in_it.some) in
        all_rounds d (f ∙ ap (times (get_or ts (a + 1) 0 - 1) (written run)) o.rooms ∙ ap (λ k. times k (written run) w) back)
