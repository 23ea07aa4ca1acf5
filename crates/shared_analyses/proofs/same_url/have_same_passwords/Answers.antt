use Rattle.std.proofs.Common.{◌∙◌, sym, ap, cond, List, ℕ, Some, None}
use Rattle.url.specs.Input.{is_empty}
use Rattle.shared_analyses.proofs.SameLemmas.{same_passwords}
use Rattle.shared_analyses.proofs.same_url.have_same_passwords.Goals as goal

-- an empty password is none
pub returns : goal.returns
returns c = (
  λ yes. same_passwords c.args.url.now.password c.args.other.now.password
      (sym c.password.ensures ∙ c.are_same_texts.ensures.0 yes ∙ c.password-2.ensures),
  λ same. c.are_same_texts.ensures.1
      (c.password.ensures ∙ ap (λ (p : List ℕ). cond (is_empty p) None (Some p)) same ∙ sym c.password-2.ensures),
)
