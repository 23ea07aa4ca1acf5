-- Words have one form at most.
use Rattle.std.proofs.Common.{◌≡◌, sym, ◌∙◌, ap, ℕ, ◌==◌, List, [], get_or, if◌then◌else◌}
use Rattle.joravelsu_run.specs.declared.words.Form.{Form}
use Rattle.joravelsu_run.specs.declared.words.Form.TheVariants.{Build, Order, Groups, Faults, Why, Gone, Policy, Declarations}
use Rattle.joravelsu_run.specs.Words.{IsForm}

-- the form whose word has this first and this second letter
abbrev like : ℕ → ℕ → Form
like letter next =
    if letter == 98 then Build else (if letter == 111 then Order
    else (if letter == 103 then (if next == 114 then Groups else Gone)
    else (if letter == 102 then Faults else (if letter == 119 then Why
    else (if letter == 100 then Declarations else Policy)))))

abbrev form_like : List (List ℕ) → Form
form_like words = like (get_or (get_or words 0 []) 0 0) (get_or (get_or words 0 []) 1 0)

begins : (f : Form) (words : List (List ℕ)) → IsForm f words → form_like words ≡ f
begins Build words is = ap form_like is
begins Order words is = ap form_like is
begins Groups words is = ap form_like is
begins Faults words is = ap form_like is
begins Why words is = ap form_like is
begins Gone words is = ap form_like is
begins Policy words is = ap form_like is
begins Declarations words is = ap form_like is

pub one_form : (f g : Form) (words : List (List ℕ)) → IsForm f words → IsForm g words → f ≡ g
one_form f g words is so = sym (begins f words is) ∙ begins g words so
