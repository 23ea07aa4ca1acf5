-- What the calls of a session answer.
use Rattle.std.proofs.Common.{◌≡◌, ℕ, List, refl, Ok, Err, Result}
use Rattle.std.specs.Prelude.{IfOk, OnErr}
use Rattle.std.specs.declared.alloc.AllocError.{AllocError}
use Rattle.graph_entry.specs.declared.answer.LoadAnswer.{LoadAnswer}
use Rattle.graph_session.specs.declared.loader.Given.{Given}
use Rattle.graph_session.specs.declared.session.Session.{Session}
use Rattle.graph_session.specs.Session.{Answers}
use Rattle.graph_session.specs.Calls.{Answer, IsContent, IsRedirect, IsAnswer, of_content, of_redirect, AnswersBy, with_answer, no_memory, given_status}

-- content, and a redirect, are answers of their kinds
pub is_content : (kind : ℕ) (bytes content_type : List ℕ) (result : Result Answer AllocError) → kind ≡ 0
    → IfOk result (IsContent bytes content_type) → IfOk result (IsAnswer kind bytes content_type)
is_content kind bytes content_type (Ok answer) zero is = of_content zero is
is_content kind bytes content_type (Err e) zero is = tt

pub is_redirect : (kind : ℕ) (bytes content_type : List ℕ) (result : Result Answer AllocError) → kind ≡ 1
    → IfOk result (IsRedirect bytes) → IfOk result (IsAnswer kind bytes content_type)
is_redirect kind bytes content_type (Ok answer) one is = of_redirect one is
is_redirect kind bytes content_type (Err e) one is = tt

-- an answer was given, or memory ran out
pub answered_by : {M : Type 0} (number kind : ℕ) (bytes content_type : List ℕ) (old new : Session M)
    (answer : LoadAnswer)
    (result : Result Given AllocError) → IsAnswer kind bytes content_type (Ok answer)
    → IfOk result (Answers number answer old new) → OnErr result (new ≡ old)
    → AnswersBy number kind bytes content_type old new (given_status result)
answered_by number kind bytes content_type old new answer (Ok given) is answers kept =
    with_answer (Ok answer) is (given, answers, refl)
answered_by number kind bytes content_type old new answer (Err e) is answers kept = no_memory kept refl
