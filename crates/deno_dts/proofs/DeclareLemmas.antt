-- What is answered of a program, from its draft.
use Rattle.std.specs.Prelude.{ℕ, List, [], Option, Some, Result, Ok, Err, IfOk, OnOk}
use Rattle.std.proofs.Common.{◌≡◌, sym, ap, subst, ◌∙◌, false}
use Rattle.std.specs.declared.alloc.AllocError.{AllocError}
use Rattle.base.specs.declared.range.Range.{Range}
use Rattle.es_token.specs.declared.token.Token.{Token}
use Rattle.es_ast.specs.declared.ast.Program.{Program}
use Rattle.es_syntax.specs.declared.entry.Entry.{Entry}
use Rattle.es_syntax.specs.Held.{held}
use Rattle.es_syntax.specs.Roles.{program_in}
use Rattle.es_lowering.specs.Value.{part}
use Rattle.es_program.specs.Typed.{program_at}
use Rattle.es_changed.specs.declared.entry.ChangedEntry.{ChangedEntry}
use Rattle.dts_rules.specs.declared.found.Found.{Found}
use Rattle.dts_rules.specs.Rules.{Env}
use Rattle.dts_rules.specs.Programs.{declared}
use Rattle.dts_draft.specs.declared.draft.Draft.{Draft}
use Rattle.dts_draft.specs.Written.{IfThere}
use Rattle.es_changed.specs.Changed.{held_in}
use Rattle.es_program.specs.Owned.{Owned}
use Rattle.dts_rules.specs.Sets.{Numbers}
use Rattle.dts_sets.specs.Ids.{Numbered}
use Rattle.deno_dts.specs.declared.declaring.Declared.{Declared}
use Rattle.deno_dts.specs.Declarations.{declarations_in}
use Rattle.deno_dts.specs.Transformed.{state_of_declared}
use Rattle.deno_dts.specs.Drafted.{Drafted, DraftIs, env_with, state_after}
use Rattle.deno_dts.proofs.DraftLemmas.{tree_is, state_is}

pub tree_of : (x u : List ℕ) (ts us : List Token) (es : List Entry) (env : Env) (made : ℕ) (draft : Draft)
    (row : List ChangedEntry) (p : Program) → program_at x ts es ≡ Some p
    → IfThere (DraftIs x ts env made draft) (program_in (part (held x ts es) 0)) → u ≡ x → us ≡ ts → row ≡ draft.row
    → program_in (part (held_in u us row) 0) ≡ Some (declared env p (state_after [] made)).0
unfolding program_at
tree_of x u ts us es env made draft row p is h eu es' er =
    tree_is x u ts us env made draft row (program_in (part (held x ts es) 0)) p is h eu es' er

pub state_of_all : (x : List ℕ) (ts : List Token) (es : List Entry) (env : Env) (made : ℕ) (draft : Draft) (p : Program)
    (f : List Found) (n : ℕ) → program_at x ts es ≡ Some p
    → IfThere (DraftIs x ts env made draft) (program_in (part (held x ts es) 0)) → f ≡ draft.found.items
    → n ≡ draft.made
    → state_after f n ≡ (declared env p (state_after [] made)).1
unfolding program_at
state_of_all x ts es env made draft p f n is h ef en =
    state_is x ts env made draft (program_in (part (held x ts es) 0)) p f n is h ef en

-- ---- of what is answered
-- the same ranges
pub by_ranges : (x : List ℕ) (ts : List Token) (ids : List ℕ) (unresolved made : ℕ) (lent ranges : List Range)
    (draft : Draft) (o : Option Program) → lent ≡ ranges
    → (draft.failed ≡ false → Drafted x ts ids lent unresolved made draft o)
    → draft.failed ≡ false → Drafted x ts ids ranges unresolved made draft o
by_ranges x ts ids unresolved made lent ranges draft o same drafted failed =
    subst (λ (rs : List Range). Drafted x ts ids rs unresolved made draft o) same (drafted failed)

pub tree_answered : (r : Result Declared AllocError) (x : List ℕ) (ts : List Token) (es : List Entry) (ids : List ℕ)
    (unresolved made : ℕ) (ranges : List Range) (draft : Draft) (copied it : Owned Program)
    → OnOk r (draft.failed ≡ false) → IfOk r (λ d. d.declarations.entries ≡ draft.row)
    → IfOk r (λ d. d.declarations.text ≡ copied.text) → IfOk r (λ d. d.declarations.tokens ≡ copied.tokens)
    → copied ≡ it → x ≡ it.text → ts ≡ it.tokens → program_at x ts es ≡ Some it.typed
    → (draft.failed ≡ false → Drafted x ts ids ranges unresolved made draft (program_in (part (held x ts es) 0)))
    → IfOk r (λ d. (number : Numbers) → Numbered it.tokens ids number
    → declarations_in d.declarations
    ≡ Some (declared (env_with number unresolved ranges) it.typed (state_after [] made)).0)
tree_answered (Err e) x ts es ids unresolved made ranges draft copied it failed row text tokens same xs tss typed
    drafted = tt
tree_answered (Ok d) x ts es ids unresolved made ranges draft copied it failed row text tokens same xs tss typed
    drafted =
    λ number n.
    tree_of x d.declarations.text ts d.declarations.tokens es (env_with number unresolved ranges) made draft
    d.declarations.entries it.typed typed
    (drafted failed number (subst (λ (us : List Token). Numbered us ids number) (sym tss) n))
    (text ∙ (ap (λ (p : Owned Program). p.text) same ∙ sym xs))
    (tokens ∙ (ap (λ (p : Owned Program). p.tokens) same ∙ sym tss)) row

pub found_answered : (r : Result Declared AllocError) (x : List ℕ) (ts : List Token) (es : List Entry) (ids : List ℕ)
    (unresolved made : ℕ) (ranges : List Range) (draft : Draft) (it : Owned Program)
    → OnOk r (draft.failed ≡ false) → IfOk r (λ d. d.found ≡ draft.found.items) → IfOk r (λ d. d.made ≡ draft.made)
    → ts ≡ it.tokens → program_at x ts es ≡ Some it.typed
    → (draft.failed ≡ false → Drafted x ts ids ranges unresolved made draft (program_in (part (held x ts es) 0)))
    → IfOk r (λ d. (number : Numbers) → Numbered it.tokens ids number
    → state_of_declared d ≡ (declared (env_with number unresolved ranges) it.typed (state_after [] made)).1)
found_answered (Err e) x ts es ids unresolved made ranges draft it failed found count tss typed drafted = tt
found_answered (Ok d) x ts es ids unresolved made ranges draft it failed found count tss typed drafted =
    λ number n.
    state_of_all x ts es (env_with number unresolved ranges) made draft it.typed d.found d.made typed
    (drafted failed number (subst (λ (us : List Token). Numbered us ids number) (sym tss) n)) found count
