-- What is given follows what is answered: if the answer `o` of a call is known to be `p`, and the call leaves `a`, then what `p` gives is what `a` gives.
use mathlib.Core.Path.{◌≡◌, sym, ap, ◌∙◌}
use mathlib.Core.List.{List}
use Prim.Native.Nat.{ℕ}
use Rattle.std.specs.Prelude.{Result, Option}
use Rattle.rules.specs.declared.Refusal.{Refusal}
use Rattle.rules.specs.Answers.{Outcome}
use Rattle.rules.specs.Questions.{SpreadAnswer}
use Rattle.listing.specs.declared.GraphSize.{GraphSize}
use Rattle.listing.specs.Call.{ExpandingLeft}
use Rattle.estimate.specs.Call.{After}
use Rattle.recorder.specs.declared.Reading.{Reading}
use Rattle.recorder.specs.Calls.{ReadLeft, CountLeft}
use Rattle.night_rows.specs.declared.Report.{Report}
use Rattle.nightly.specs.Call.{BuildLeft}
use Rattle.printed.specs.Rooms.{Rooms, NumbersWritten, TextWritten}
use Rattle.given.specs.Answers.{OutcomeGiven, ValueGiven, ReadingGiven, SizesGiven, outcome_given, sizes_given, count_given, reading_given, bytes_of}
use Rattle.estimate_c.specs.Given.{graph_given, listing_given, built_given, nightly_given, spread_given, read_given, counted_given, numbers_given, text_given}

-- of a graph call: `g` is what its answer `o` gives
pub graph_given_lem : {g : OutcomeGiven} {o : Outcome} {result work : List ℕ} {a : After} (states aside : ℕ)
    → g ≡ outcome_given o states aside
    → record { answer = o; result = result; work = work } ≡ a
    → record { answer = g; result = result; work = work } ≡ graph_given a states aside
graph_given_lem {result = result} {work = work} states aside said leaves =
    ap (λ h. record { answer = h; result = result; work = work }) said ∙ ap (λ b. graph_given b states aside) leaves

-- of a listing: `g` is what the answer `o` gives
pub listing_given_lem : {g : SizesGiven} {o : Result GraphSize Refusal} {runs accesses edges : List ℕ} {a : ExpandingLeft} (nodes many links : ℕ)
    → g ≡ sizes_given o nodes many links
    → record { answer = o; runs = runs; accesses = accesses; edges = edges } ≡ a
    → record { answer = g; runs = runs; accesses = accesses; edges = edges } ≡ listing_given a nodes many links
listing_given_lem {runs = runs} {accesses = accesses} {edges = edges} nodes many links said leaves =
    ap (λ h. record { answer = h; runs = runs; accesses = accesses; edges = edges }) said ∙ ap (λ b. listing_given b nodes many links) leaves

pub nightly_given_lem : {o p : Result Report Refusal} {rows work : List ℕ} (a : BuildLeft) (report : Report)
    → o ≡ p
    → record { answer = o; rows = rows; work = work } ≡ a
    → built_given p report rows work ≡ nightly_given a report
nightly_given_lem {rows = rows} {work = work} a report told leaves =
    ap (λ q. built_given q report rows work) (sym told) ∙ ap (λ b. nightly_given b report) leaves

-- what is given of an answer: `o` is what the question answered, and `p` what it has to answer
pub value_given : {A : Type 0} (given : A → ℕ → ValueGiven) {g : ValueGiven} {o p : A} {value : ℕ}
    → g ≡ given o value
    → o ≡ p
    → g ≡ given p value
value_given given {value = value} said answered = said ∙ ap (λ q. given q value) answered

pub spread_given_lem : {g : ValueGiven} {o : Result ℕ Refusal} {room : List ℕ} {a : SpreadAnswer} (value : ℕ)
    → g ≡ count_given o value
    → record { answer = o; room = room } ≡ a
    → record { answer = g; room = room } ≡ spread_given a value
spread_given_lem {room = room} value said leaves = ap (λ h. record { answer = h; room = room }) said ∙ ap (λ b. spread_given b value) leaves

pub read_given_lem : {g : ReadingGiven} {o : Result Reading Refusal} {room : List ℕ} {a : ReadLeft} (count place : ℕ)
    → g ≡ reading_given o count place
    → record { answer = o; room = room } ≡ a
    → record { answer = g; room = room } ≡ read_given a count place
read_given_lem {room = room} count place said leaves = ap (λ h. record { answer = h; room = room }) said ∙ ap (λ b. read_given b count place) leaves

pub counted_given_lem : {o p : Result ℕ Refusal} {room : List ℕ} (a : CountLeft) (value : ℕ)
    → o ≡ p
    → record { answer = o; room = room } ≡ a
    → counted_given (record { answer = p; room = room }) value ≡ counted_given a value
counted_given_lem {room = room} a value told leaves =
    ap (λ q. counted_given (record { answer = q; room = room }) value) (sym told) ∙ ap (λ b. counted_given b value) leaves

-- a text has n bytes, where the answer of its call says so
pub numbers_given_lem : {o : Option ℕ} {rooms : Rooms} (a : NumbersWritten) (n : ℕ)
    → n ≡ bytes_of o
    → record { answer = o; rooms = rooms } ≡ a
    → record { bytes = n; rooms = rooms } ≡ numbers_given a
numbers_given_lem {rooms = rooms} a n said leaves = ap (λ b. record { bytes = b; rooms = rooms }) said ∙ ap numbers_given leaves

pub text_given_lem : {o : Option ℕ} {numbers : List ℕ} {rooms : Rooms} (a : TextWritten) (n : ℕ)
    → n ≡ bytes_of o
    → record { answer = o; numbers = numbers; rooms = rooms } ≡ a
    → record { bytes = n; numbers = numbers; rooms = rooms } ≡ text_given a
text_given_lem {numbers = numbers} {rooms = rooms} a n said leaves = ap (λ b. record { bytes = b; numbers = numbers; rooms = rooms }) said ∙ ap text_given leaves
