use Rattle.std.proofs.Common.{rules, refl, sym, subst, Some, None}
use Rattle.std.specs.Prelude.{Option}
use Rattle.source_text.specs.declared.display.LineAndColumnDisplay.{LineAndColumnDisplay}
use Rattle.graph_session.specs.Calls.{IsDisplayIn, is_shown, no_place, no_text}
use Rattle.graph_session.proofs.calls.place_call.Goals as goal

-- there is no text
pub returns-in_default-text_at : goal.returns-in_default-text_at
returns-in_default-text_at g c = no_text c.in-Some.graph (search rules) (sym c.in_default-text_at.ensures) refl refl

-- a character begins at the place, or the text ends
pub returns-in-Ok-Some : goal.returns-in-Ok-Some
returns-in-Ok-Some g c =
    let shown =
    subst (λ (o : Option LineAndColumnDisplay). IsDisplayIn c.in-Some-text_at.text.now c.args.place o)
    c.in-Ok-Some.field-0-is
    c.in-Ok-Some.ensures in
    is_shown c.in-Some.graph c.in-Some-text_at.text.now c.in-Ok-Some.display (search rules)
    (sym c.in-Some-text_at.ensures)
    shown.0 shown.1 refl refl

-- there is no such place
pub returns-in-Ok-None : goal.returns-in-Ok-None
returns-in-Ok-None g c =
    no_place c.in-Some.graph c.in-Some-text_at.text.now (search rules) (sym c.in-Some-text_at.ensures)
    (subst (λ (o : Option LineAndColumnDisplay). IsDisplayIn c.in-Some-text_at.text.now c.args.place o)
    c.in-Ok-None.field-0-is
    c.in-Ok-None.ensures) refl refl
