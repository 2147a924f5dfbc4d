-- What a call for the graph of a listing's text leaves: its answer, and the rooms that were lent.
use Rattle.std.specs.Prelude.{◌≡◌, Bool, true, false, ◌&&◌, List, ◌++◌, ℕ, leb, length, drop, replicate, Option, Some, None}
use Rattle.writing.specs.Put.{Put}
use Rattle.writing.specs.Told.{zero_if}
use Rattle.graphs.specs.Listings.{listing_of_text, text_expanded}

-- the rooms that the graph is worked in, and the room for the text
pub record GraphRooms : Type 0 where
  pub runs : List ℕ
  pub accesses : List ℕ
  pub edges : List ℕ
  pub output : List ℕ

-- how many numbers they and the room for numbers have to have, and how many bytes: five lines of at most 8,215 numbers, each of at most 20 digits and a gap
abbrev pub room_for_graph : ℕ → ℕ → ℕ → ℕ → ℕ → Bool
room_for_graph numbers runs accesses edges output = leb 16384 numbers && leb 64 runs && leb 4096 accesses && leb 4032 edges && leb 262144 output

-- whether rooms are long enough
abbrev pub enough_for_graph : List ℕ → GraphRooms → Bool
enough_for_graph numbers r = room_for_graph (length numbers) (length r.runs) (length r.accesses) (length r.edges) (length r.output)

-- the answer, how many bytes were written, or None because a room is too short; the room for numbers and the other rooms then
pub record GraphWritten : Type 0 where
  pub answer : Option ℕ
  pub numbers : List ℕ
  pub rooms : GraphRooms

-- where the rooms are long enough, the text is at the front of the output, the room for numbers is zero, and so are the others where the listing was expanded;
-- otherwise nothing is written
abbrev pub graph_written : Bool → Bool → List ℕ → List ℕ → GraphRooms → GraphWritten
graph_written true expanded text numbers r =
    record {
      answer = Some (length text);
      numbers = replicate (length numbers) 0;
      rooms = record {
        runs = zero_if expanded r.runs;
        accesses = zero_if expanded r.accesses;
        edges = zero_if expanded r.edges;
        output = text ++ drop (length text) r.output;
      };
    }
graph_written false expanded text numbers r = record { answer = None; numbers = numbers; rooms = r }

-- after a listing's text
unfoldable pub after_listing : List ℕ → List ℕ → GraphRooms → GraphWritten
after_listing text numbers r = graph_written (enough_for_graph numbers r) (text_expanded text) (listing_of_text text) numbers r

-- ---- what the inner functions do for each other

-- the text was put at the front of the output, r bytes, and the rooms a became b: zero where the listing was expanded, otherwise as they were
pub record GraphWrote (expanded : Bool) (text : List ℕ) (r : ℕ) (a b : GraphRooms) : Type 0 where
  pub put : Put text 0 r a.output b.output
  pub runs : b.runs ≡ zero_if expanded a.runs
  pub accesses : b.accesses ≡ zero_if expanded a.accesses
  pub edges : b.edges ≡ zero_if expanded a.edges
