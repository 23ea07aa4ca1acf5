-- What a transformer has found, after what it had found before.
use Rattle.std.specs.Prelude.{ℕ, List, [], ◌∷◌, ◌++◌, Option, Some, Result, Ok, Err, OnErr, map}
use Rattle.std.proofs.Common.{◌≡◌, refl, sym, ap, ◌∙◌, take, drop}
use Rattle.std.proofs.lemmas.List.{append_assoc, take-append-drop, map-append}
use Rattle.es_ast.specs.declared.ast.Program.{Program}
use Rattle.dts_rules.specs.declared.found.Found.{Found}
use Rattle.dts_rules.specs.declared.found.FoundKind.{FoundKind}
use Rattle.dts_rules.specs.declared.found.FoundKind.TheVariants as kind
use Rattle.dts_rules.specs.Rules.{Env, State}
use Rattle.dts_rules.specs.Programs.{declared}
use Rattle.dts_laws.specs.Appends.{ahead}
use Rattle.deno_dts.specs.declared.diagnostics.FastCheckDtsDiagnostic.{FastCheckDtsDiagnostic}
use Rattle.deno_dts.specs.Diagnostics.{diagnostic, diagnostic_of, found_of}
use Rattle.deno_dts.specs.Drafted.{state_after}
use Rattle.deno_dts.specs.Places.{Place}
use Rattle.deno_dts.specs.Transformed.{Begins}
use Rattle.deno_dts.proofs.DraftLemmas.{after_found}

pub on_err : {A E : Type 0} (r : Result A E) (P : Type 0) → P → OnErr r P
on_err (Ok a) P p = tt
on_err (Err e) P p = p

-- ---- diagnostics
found_back : (k : FoundKind) (place : Place) → found_of (diagnostic k place) ≡ record { kind = k; range = place.range }
found_back kind.UnableToInferType place = refl
found_back kind.UnableToInferTypeFallbackAny place = refl
found_back kind.UnableToInferTypeFromProp place = refl
found_back kind.UnableToInferTypeFromSpread place = refl
found_back kind.UnsupportedUsing place = refl

all_back : (specifier : List ℕ) (found : List Found) → map found_of (map (diagnostic_of specifier) found) ≡ found
all_back specifier [] = refl
all_back specifier (it ∷ others) =
    rw (found_back it.kind (record { specifier = specifier; range = it.range })) (rw (all_back specifier others) refl)

-- what they were made of comes after what was found before
pub found_after : (specifier : List ℕ) (old new : List FastCheckDtsDiagnostic) (found : List Found)
    → new ≡ old ++ map (diagnostic_of specifier) found → map found_of new ≡ map found_of old ++ found
found_after specifier old new found e =
    ap (map found_of) e
    ∙ (map-append found_of old (map (diagnostic_of specifier) found)
    ∙ ap (λ (l : List Found). map found_of old ++ l) (all_back specifier found))

-- those so far are the first of all
pub begins_taken : (specifier : List ℕ) (i : ℕ) (front before old : List FastCheckDtsDiagnostic) (found : List Found)
    → front ≡ before → before ≡ old ++ map (diagnostic_of specifier) (take i found)
    → Begins front (old ++ map (diagnostic_of specifier) found)
begins_taken specifier i front before old found e f = (
  map (diagnostic_of specifier) (drop i found),
  ap (λ (l : List Found). old ++ map (diagnostic_of specifier) l) (sym (take-append-drop i found))
      ∙ (ap (λ (l : List FastCheckDtsDiagnostic). old ++ l)
      (map-append (diagnostic_of specifier) (take i found) (drop i found))
      ∙ (sym (append_assoc old (map (diagnostic_of specifier) (take i found))
      (map (diagnostic_of specifier) (drop i found)))
      ∙ ap (λ (l : List FastCheckDtsDiagnostic). l ++ map (diagnostic_of specifier) (drop i found)) (sym (e ∙ f)))),
)

-- ---- of a program
-- the diagnostics of what was found
pub all_diagnosed : (specifier : List ℕ) (s : State) (old : List FastCheckDtsDiagnostic) (m : ℕ)
    (more rest : List Found)
    → state_after more m ≡ s → rest ≡ more
    → old ++ map (diagnostic_of specifier) rest ≡ old ++ map (diagnostic_of specifier) s.found
all_diagnosed specifier s old m more rest e same =
    ap (λ (l : List Found). old ++ map (diagnostic_of specifier) l) (same ∙ ap (λ (s : State). s.found) e)

pub begins_nothing : (old more : List FastCheckDtsDiagnostic) → Begins old (old ++ more)
begins_nothing old more = (more, refl)

pub begins_same : (front all others : List FastCheckDtsDiagnostic) → Begins front all → all ≡ others
    → Begins front others
begins_same front all others b e = (b.0, sym e ∙ b.1)

pub tree_after : (env : Env) (p : Program) (f : List Found) (n : ℕ) (o : Option Program)
    → o ≡ Some (declared env p (state_after [] n)).0 → o ≡ Some (declared env p (state_after f n)).0
tree_after env p f n o e = e ∙ ap (λ (q : Program × State). Some q.0) (sym (after_found env p f n))

pub state_is_after : (env : Env) (p : Program) (f : List Found) (n m : ℕ) (more rest all : List Found)
    → state_after more m ≡ (declared env p (state_after [] n)).1 → rest ≡ more → all ≡ f ++ rest
    → state_after all m ≡ (declared env p (state_after f n)).1
state_is_after env p f n m more rest all e same is =
    ap (λ (l : List Found). state_after l m) is
    ∙ (ap (λ (l : List Found). state_after (f ++ l) m) same
    ∙ (ap (ahead f) e ∙ ap (λ (q : Program × State). q.1) (sym (after_found env p f n))))
