-- What a call leaves is said in the crate `calls`; here what the end of a call with pairings leaves.
use Rattle.std.specs.Prelude.{Bool, true, false, List, ℕ, length, replicate, Err, Ok}
use Rattle.rules.specs.declared.State.{State}
use Rattle.rules.specs.declared.Units.{Units}
use Rattle.rules.specs.declared.Refusal.TheVariants.{Pairing}
pub use Rattle.calls.specs.Call.{After, written, leaves, handed, paired_leaves}
unfoldable pub use Rattle.calls.specs.Call.{analysed, analysed_paired}

-- where every pairing was accepted: the table T, with the set-aside count a, and n zeros in the working room; otherwise 19, and the result room as it was
abbrev pub closed : Bool → List State → Units → List ℕ → ℕ → After
closed true T a result n = record { answer = Ok (record { states = length T; aside = a }); result = written T (length result); work = replicate n 0 }
closed false T a result n = record { answer = Err Pairing; result = result; work = replicate n 0 }
