-- What an event makes of the declarations that are left.
use Rattle.std.specs.Prelude.{ℕ, ◌==◌, ◌&&◌, Bool, true, false, if◌then◌else◌, List, [], ◌∷◌, ◌++◌, length, map, Option, Some, None, slice_get, bytes_eq}
use Rattle.std.specs.List.{filter}
use Rattle.std.proofs.Common.{◌≡◌, refl, sym, ap, ◌∙◌, subst, arith}
use Rattle.std.proofs.lemmas.List.{append-nil, append_assoc}
use Rattle.es_token.specs.declared.token.Token.{Token}
use Rattle.es_scopes.specs.Numbers.{number_at}
use Rattle.es_variables.specs.declared.scope_analysis.kinds.ScopeKind.{ScopeKind}
use Rattle.es_variables.specs.declared.scope_analysis.kinds.BindingKind.{BindingKind}
use Rattle.es_variables.specs.declared.scope_analysis.kinds.Id.{Id}
use Rattle.es_variables.specs.declared.scope_analysis.kinds.Var.{Var}
use Rattle.es_variables.specs.declared.scope_analysis.steps.Event.{Event}
use Rattle.es_variables.specs.declared.scope_analysis.steps.Event.TheVariants as event
use Rattle.es_variables.specs.scope_analysis.Events.{Events}
use Rattle.es_variables.specs.scope_analysis.Scope.{shorter, sym_of, id_of, named, declarations, same_id, var, or_else}
use Rattle.es_variables.specs.declared.scope.Scope.{Scope}
use Rattle.es_variables.specs.Numbers.{at_in, AreNumbers}
use Rattle.es_variables.specs.Table.{ids_at, var_at, extra}
use Rattle.es_variables.specs.Kept.{Keeps, Adds, Leaves, spelled_so, left_in}

-- ---- paths
last_off : (path : List ScopeKind) (s : ScopeKind) → shorter (path ++ s ∷ []) ≡ path
last_off [] s = refl
last_off (t ∷ []) s = refl
last_off (t ∷ u ∷ path) s = ap (λ k. t ∷ k) (last_off (u ∷ path) s)

pub shorter_one : (old new : List ScopeKind) (s : ScopeKind) → old ≡ new ++ s ∷ [] → new ≡ shorter old
shorter_one old new s e = sym (ap shorter e ∙ last_off new s)

pub shorter_none : (old new : List ScopeKind) → old ≡ [] → new ≡ [] → new ≡ shorter old
shorter_none old new e f = f ∙ sym (ap shorter e)

-- ---- one declaration more
by_same : (b c : Bool) (v : Var) (o rest : Option Var)
    → or_else rest (if b && c then Some v else o) ≡ or_else (or_else rest (if b && c then Some v else None)) o
by_same true true v o None = refl
by_same true true v o (Some w) = refl
by_same true false v o None = refl
by_same true false v o (Some w) = refl
by_same false c v o None = refl
by_same false c v o (Some w) = refl

nothing : (o : Option Var) → or_else o None ≡ o
nothing None = refl
nothing (Some v) = refl

so_more : (id : Id) (v : Var) (left : List (Id × Var)) (q : List ℕ)
    → spelled_so ((id, v) ∷ left) q ≡ extra id.sym id q ++ spelled_so left q
so_more id v left q = by (bytes_eq id.sym q) refl
  where
    by : (b : Bool) → bytes_eq id.sym q ≡ b → spelled_so ((id, v) ∷ left) q ≡ extra id.sym id q ++ spelled_so left q
    by true e = rw (e) refl
    by false e = rw (e) refl

added : (old new : Scope) (id : Id) (v : Var) (left found : List (Id × Var)) → Adds old id v new
    → Leaves old ((id, v) ∷ left) found → Leaves new left found
added old new id v left found adds leaves = record {
  vars = λ asked.
      ap (or_else (var left asked)) (adds.vars asked.sym asked.ctxt)
      ∙ by_same (bytes_eq id.sym asked.sym) (id.ctxt == asked.ctxt) v (var_at old.vars asked.sym asked.ctxt)
      (var left asked)
      ∙ leaves.vars asked;
  ids = λ q.
      ap (λ s. s ++ spelled_so left q) (adds.ids q)
      ∙ append_assoc (ids_at old.ids q) (extra id.sym id q) (spelled_so left q)
      ∙ ap (λ s. ids_at old.ids q ++ s) (sym (so_more id v left q))
      ∙ leaves.ids q;
}

abbrev id_made : List ℕ → ℕ → Id
id_made q n = record { sym = q; ctxt = n }

abbrev var_made : List ScopeKind → BindingKind → Var
var_made path bound = record { path = path; kind = bound }

module _ (x : List ℕ) (ts : List Token) where
  pub left_declare : (held : List ℕ) (old new : Scope) (id : Id) (v : Var) (path : List ScopeKind) (bound : BindingKind)
      (at : ℕ) → id.sym ≡ sym_of x ts (slice_get ts at) → id.ctxt ≡ at_in held at
      → v.path ≡ path → v.kind ≡ bound → Adds old id v new
      → (numbers : List (ℕ × ℕ)) (rest : Events) (found : List (Id × Var)) → AreNumbers held numbers
      → Leaves old (left_in x ts numbers path (event.Declare bound at ∷ rest)) found
      → Leaves new (left_in x ts numbers path rest) found
  left_declare held old new id v path bound at sym_is ctxt_is path_is kind_is adds numbers rest found are leaves =
      let left = left_in x ts numbers path rest in
      let made : id_of x ts numbers at ≡ id =
      sym (ap (λ q. id_made q id.ctxt) sym_is ∙ ap (id_made (sym_of x ts (slice_get ts at))) (ctxt_is ∙ are at)) in
      let bounded : var_made path bound ≡ v =
      sym (ap (λ p. var_made p v.kind) path_is ∙ ap (var_made path) kind_is) in
      added old new id v left found adds
      (subst (λ w. Leaves old ((id, w) ∷ left) found) bounded
      (subst (λ i. Leaves old ((i, var_made path bound) ∷ left) found) made leaves))

  pub left_enter : (s : Scope) (numbers : List (ℕ × ℕ)) (old new : List ScopeKind) (k : ScopeKind) (rest : Events)
      (found : List (Id × Var)) → new ≡ old ++ k ∷ []
      → Leaves s (left_in x ts numbers old (event.Enter k ∷ rest)) found
      → Leaves s (left_in x ts numbers new rest) found
  left_enter s numbers old new k rest found is leaves =
      subst (λ path. Leaves s (left_in x ts numbers path rest) found) (sym is) leaves

  pub left_leave : (s : Scope) (numbers : List (ℕ × ℕ)) (old new : List ScopeKind) (rest : Events)
      (found : List (Id × Var)) → new ≡ shorter old
      → Leaves s (left_in x ts numbers old (event.Leave ∷ rest)) found
      → Leaves s (left_in x ts numbers new rest) found
  left_leave s numbers old new rest found is leaves =
      subst (λ path. Leaves s (left_in x ts numbers path rest) found) (sym is) leaves

  -- ---- a row of events
  pub left_begin : (s : Scope) (found : List (Id × Var)) → ((q : List ℕ) → ids_at s.ids q ≡ [])
      → ((q : List ℕ) (n : ℕ) → var_at s.vars q n ≡ None) → Leaves s found found
  left_begin s found no_ids no_vars = record {
    vars = λ id. ap (or_else (var found id)) (no_vars id.sym id.ctxt) ∙ nothing (var found id);
    ids = λ q. ap (λ s. s ++ spelled_so found q) (no_ids q);
  }

  pub left_more : (s : Scope) (numbers : List (ℕ × ℕ)) (path : List ScopeKind) (row rest : Events) (one : Event)
      (found : List (Id × Var)) → row ≡ one ∷ rest → Leaves s (left_in x ts numbers path row) found
      → Leaves s (left_in x ts numbers path (one ∷ rest)) found
  left_more s numbers path row rest one found is leaves =
      subst (λ r. Leaves s (left_in x ts numbers path r) found) is leaves

  pub left_end : (s : Scope) (numbers : List (ℕ × ℕ)) (path : List ScopeKind) (row : Events) (found : List (Id × Var))
      → length row ≡ 0 → Leaves s (left_in x ts numbers path row) found → Keeps s found
  left_end s numbers path [] found e leaves = record {
    vars = λ id. leaves.vars id;
    ids = λ q. sym (append-nil (ids_at s.ids q)) ∙ leaves.ids q;
  }
  left_end s numbers path (one ∷ row) found e leaves = absurd (omega arith)
