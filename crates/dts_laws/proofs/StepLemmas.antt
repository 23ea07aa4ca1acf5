-- Steps one after the other only append, where each does.
use Rattle.std.proofs.Common.{◌≡◌, refl, ◌∙◌, ap, ℕ, List, [], ◌∷◌, Option, Some, None}
use Rattle.std.proofs.lemmas.List.{append_assoc}
use Rattle.base.specs.declared.range.Range.{Range}
use Rattle.es_ast.specs.declared.ts.ts.TsType.{TsType}
use Rattle.dts_rules.specs.declared.found.FoundKind.{FoundKind}
use Rattle.dts_rules.specs.declared.found.Found.{Found}
use Rattle.dts_rules.specs.Made.{any_type}
use Rattle.dts_rules.specs.Rules.{State, Run, Typing, after, then_, note, in_turn, or_any}
use Rattle.dts_laws.specs.Appends.{ahead, moved, Appends}

abbrev state_by : ℕ → List Found → State
state_by n found = record { found = found; made = n }

pub note_ahead : (k : FoundKind) (r : Range) (f : List Found) (s : State) → note k r (ahead f s) ≡ ahead f (note k r s)
note_ahead k r f s =
    ap (state_by s.made) (append_assoc f s.found (record { kind = k; range = r } ∷ []))

-- what is made of the answer
pub after_appends : {A B : Type 0} (g : A → B) (run : Run A) → Appends run → Appends (λ s. after g (run s))
after_appends g run h f s = ap (after g) (h f s)

pub noted : {A : Type 0} (a : A) (k : FoundKind) (r : Range) → Appends (λ s. (a, note k r s))
noted a k r f s = ap (λ (t : State). (a, t)) (note_ahead k r f s)

or_any_ahead : (k : FoundKind) (r : Range) (f : List Found) (o : Option TsType) (s : State)
    → or_any k r (o, ahead f s) ≡ moved f (or_any k r (o, s))
or_any_ahead k r f (Some ty) s = refl
or_any_ahead k r f None s = noted any_type k r f s

pub or_any_appends : (k : FoundKind) (r : Range) (run : Typing) → Appends run → Appends (λ s. or_any k r (run s))
or_any_appends k r run h f s = ap (or_any k r) (h f s) ∙ or_any_ahead k r f (run s).0 (run s).1

-- in turn
abbrev pub AllAppend : {A B : Type 0} → (A → Run B) → List A → Type 0
AllAppend g [] = Unit {0}
AllAppend g (a ∷ others) = Appends (g a) × AllAppend g others

pub turn_appends : {A B : Type 0} (g : A → Run B) (them : List A) → AllAppend g them → Appends (in_turn g them)
turn_appends g [] h f s = refl
turn_appends {B = B} g (a ∷ others) h f s =
    ap (then_ (λ (b : B) (t : State). after (λ (bs : List B). b ∷ bs) (in_turn g others t))) (h.0 f s)
    ∙ ap (after (λ (bs : List B). (g a s).0 ∷ bs)) (turn_appends g others h.1 f (g a s).1)
