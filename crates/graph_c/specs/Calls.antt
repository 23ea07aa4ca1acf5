-- What joravelsu_unread leaves in the caller's buffer.
use Rattle.std.specs.Prelude.{◌≡◌, ℕ, nat_le, List, [], length, map}
use Rattle.unread_calls.specs.declared.call.Loader.{Loader}
use Rattle.unread_calls.specs.declared.call.Loader.TheVariants.{Import, Require}
use Rattle.unread_calls.specs.declared.call.UnreadCall.{UnreadCall}
use Rattle.graph_c.specs.declared.calls.SourceCall.{SourceCall}
use Rattle.graph_c.specs.declared.calls.CallsAnswer.{CallsAnswer}
use Rattle.graph_c.specs.declared.finding.Finding.{Finding}
use Rattle.graph_c.specs.declared.finding.Finding.TheVariants.{Calls}
use Rattle.graph_c.specs.Finding.{HasUnread}
use Rattle.graph_c.specs.Told.{fault_of, place_of, status_of, after}

-- the number of the header
abbrev pub call_number : Loader → ℕ
call_number Import = 0
call_number Require = 1

abbrev pub call_record : UnreadCall → SourceCall
call_record call = record { kind = call_number call.loader; start = call.range.start; end = call.range.end }

-- the calls that were found
abbrev pub found_calls : Finding → List UnreadCall
found_calls (Calls calls) = calls
found_calls _ = []

-- what is told of a finding
pub record TellsCalls (finding : Finding) (calls new_calls : List SourceCall) (answer : CallsAnswer) (status : ℕ) :
    Type 0 where
  pub counts : answer
      ≡ record { calls = length (found_calls finding); fault = fault_of finding; place = place_of finding }
  pub records : new_calls
      ≡ after (nat_le (length (found_calls finding)) (length calls)) (map call_record (found_calls finding)) calls
  pub ends : status ≡ status_of (nat_le (length (found_calls finding)) (length calls)) finding

-- what a call answers of a source in these bytes
pub data AnswersCalls (bytes : List ℕ) (calls new_calls : List SourceCall) (answer : CallsAnswer) (status : ℕ) :
    Type 0 where
  told : (finding : Finding) → HasUnread bytes finding → TellsCalls finding calls new_calls answer status
      → AnswersCalls bytes calls new_calls answer status
  -- memory ran out
  no_memory : new_calls ≡ calls → answer ≡ record { calls = 0; fault = 0; place = 0 } → status ≡ 5
      → AnswersCalls bytes calls new_calls answer status
