-- What look-ups find.
use Rattle.std.specs.Prelude.{ℕ, ◌==◌, Bool, true, false, ◌&&◌, if◌then◌else◌, List, [], ◌∷◌, ◌++◌, length, Option, Some, None, is_none, slice_get, slice_range, bytes_eq}
use Rattle.std.proofs.Common.{◌≡◌, refl, sym, ap, subst, ◌∙◌, arith, rules}
use Rattle.std.proofs.lemmas.Slice.Eq.{bytes_eq-Decides}
use Rattle.std.proofs.lemmas.Bool.Decides.{nat_tests}
use Rattle.es_token.specs.declared.token.Token.{Token}
use Rattle.es_variables.specs.declared.scope_analysis.kinds.Id.{Id}
use Rattle.es_variables.specs.declared.scope_analysis.kinds.Var.{Var}
use Rattle.es_variables.specs.scope_analysis.Scope.{var, some_of, ids_with_symbol, is_global}
use Rattle.es_variables.proofs.scope_analysis_lemmas.LookupLemmas.{global_none}
use Rattle.es_variables.specs.declared.scope.Scope.{Scope}
use Rattle.es_variables.specs.declared.ident.Ident.{Ident}
use Rattle.es_variables.specs.Numbers.{at_in}
use Rattle.es_variables.specs.Table.{ids_at, var_at, extra}
use Rattle.es_variables.specs.Kept.{Keeps, Adds, Names}

pub var_is : (s : Scope) (found : List (Id × Var)) (id : Id) (o : Option Var) → Keeps s found
    → var_at s.vars id.sym id.ctxt ≡ o → var found id ≡ o
var_is s found id o keeps is = sym (keeps.vars id) ∙ is

pub global_is : (found : List (Id × Var)) (id : Id) (o : Option Var) → var found id ≡ o
    → is_global found id ≡ is_none o
global_is found id o is = global_none found id ∙ ap is_none is

empty : (ids : List Id) → length ids ≡ 0 → some_of ids ≡ None
empty [] e = refl
empty (id ∷ ids) e = absurd (omega arith)

pub ids_none : (s : Scope) (found : List (Id × Var)) (q : List ℕ) → Keeps s found → ids_at s.ids q ≡ []
    → ids_with_symbol found q ≡ None
ids_none s found q keeps none = ap some_of (sym (keeps.ids q) ∙ none)

some : (ids : List Id) → (ids ≡ [] → ⊥) → some_of ids ≡ Some ids
some [] e = absurd (e refl)
some (id ∷ ids) e = refl

pub ids_some : (s : Scope) (found : List (Id × Var)) (q : List ℕ) → Keeps s found → (ids_at s.ids q ≡ [] → ⊥)
    → ids_with_symbol found q ≡ Some (ids_at s.ids q)
ids_some s found q keeps there = ap some_of (sym (keeps.ids q)) ∙ some (ids_at s.ids q) there

-- ---- what is made
same_text : (a b : List ℕ) → bytes_eq a b ≡ true → a ≡ b
same_text a b e = search (rules, bytes_eq-Decides)

same_number : (a b : ℕ) → (a == b) ≡ true → a ≡ b
same_number a b e = grind (arith, nat_tests)

-- at the spelling itself
own_at : (old new : Scope) (v : Var) (p : List ℕ) (m : ℕ) → var_at new.vars p m ≡ Some v
    → ((n : ℕ) → (m == n) ≡ false → var_at new.vars p n ≡ var_at old.vars p n)
    → (n : ℕ) → var_at new.vars p n ≡ (if m == n then Some v else var_at old.vars p n)
own_at old new v p m own beside n = by (m == n) refl
  where
    by : (b : Bool) → (m == n) ≡ b → var_at new.vars p n ≡ (if m == n then Some v else var_at old.vars p n)
    by true e = rw (e) (subst (λ k. var_at new.vars p k ≡ Some v) (same_number m n e) own)
    by false e = rw (e) (beside n e)

put_at : (old new : Scope) (v : Var) (p : List ℕ) (m : ℕ)
    → ((n : ℕ) → var_at new.vars p n ≡ (if m == n then Some v else var_at old.vars p n))
    → ((s : List ℕ) → bytes_eq p s ≡ false → (n : ℕ) → var_at new.vars s n ≡ var_at old.vars s n)
    → (s : List ℕ) (n : ℕ)
    → var_at new.vars s n ≡ (if bytes_eq p s && (m == n) then Some v else var_at old.vars s n)
put_at old new v p m own others s n = by (bytes_eq p s) refl
  where
    by : (b : Bool) → bytes_eq p s ≡ b
        → var_at new.vars s n ≡ (if bytes_eq p s && (m == n) then Some v else var_at old.vars s n)
    by true e =
        rw (e)
        (subst (λ k. var_at new.vars k n ≡ (if m == n then Some v else var_at old.vars k n)) (same_text p s e) (own n))
    by false e = rw (e) (others s e n)

pub adds_made : (old new : Scope) (id : Id) (v : Var) (p q : List ℕ) → p ≡ id.sym → q ≡ id.sym
    → var_at new.vars p id.ctxt ≡ Some v
    → ((n : ℕ) → (id.ctxt == n) ≡ false → var_at new.vars p n ≡ var_at old.vars p n)
    → ((s : List ℕ) → bytes_eq p s ≡ false → (n : ℕ) → var_at new.vars s n ≡ var_at old.vars s n)
    → ((s : List ℕ) → ids_at new.ids s ≡ ids_at old.ids s ++ extra q id s)
    → Adds old id v new
adds_made old new id v p q p_is q_is own beside others ids = record {
  vars = λ s n.
      put_at old new v p id.ctxt (own_at old new v p id.ctxt own beside) others s n
      ∙ ap (λ k. if bytes_eq k s && (id.ctxt == n) then Some v else var_at old.vars s n) p_is;
  ids = λ s. ids s ∙ ap (λ k. ids_at old.ids s ++ extra k id s) q_is;
}

pub names_made : (x : List ℕ) (ts : List Token) (numbers : List ℕ) (at : ℕ) (it : Ident) (token : Token)
    → slice_get ts at ≡ Some token → it.sym.now ≡ slice_range x token.range.start token.range.end
    → it.span ≡ token.range → it.ctxt ≡ at_in numbers at → Names x ts numbers at it
names_made x ts numbers at it token there sym span ctxt =
    record { token = token; there = there; sym = sym; span = span; ctxt = ctxt }
