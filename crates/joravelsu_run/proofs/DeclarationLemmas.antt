-- What is put behind a string for declarations, entry after entry.
use Rattle.std.specs.Prelude.{ℕ, true, List, [], ◌∷◌, ◌++◌, map, Option, Some, None, MatchOption, Result, Ok, Err, OnOk, is_ok, if◌then◌else◌}
use Rattle.std.specs.Borrow.{Bor}
use Rattle.std.proofs.Common.{◌≡◌, refl, sym, subst, ap, ◌∙◌, append-nil, append_assoc}
use Rattle.url.specs.Parts.{Parts}
use Rattle.graph_entry.specs.declared.entry.Entry.{Entry}
use Rattle.graph_entry.specs.declared.entry.JsModule.{JsModule}
use Rattle.graph_builder.specs.Entries.{entry_pair}
use Rattle.source_declarations.specs.declared.read.SourceDeclarations.{SourceDeclarations}
use Rattle.source_declarations.specs.Answers.{HasDeclarations, IsNoProgram}
use Rattle.joravelsu_run.specs.Declarations.{declared_lines, undeclared_line, IsDeclaredText, program, no_program, IsEntryText, IsDeclarationsText, more}
use Rattle.joravelsu_run.specs.Steps.{AddsTo}
use Rattle.joravelsu_run.proofs.FaultLemmas.{pairs_more}

-- ---- pieces, one after the other
module _ (old b1 b2 b3 b4 : List ℕ) (w1 w2 w3 w4 : List ℕ) (p : b1 ≡ old ++ w1) (q : b2 ≡ b1 ++ w2) (r : b3 ≡ b2 ++ w3)
    (s : b4 ≡ b3 ++ w4) where
  pub four_added : b4 ≡ old ++ (((w1 ++ w2) ++ w3) ++ w4)
  four_added = s ∙ rw (r, q, p) (simp append_assoc)

  pub five_added : (b5 w5 : List ℕ) → b5 ≡ b4 ++ w5 → b5 ≡ old ++ ((((w1 ++ w2) ++ w3) ++ w4) ++ w5)
  five_added b5 w5 t = t ∙ rw (s, r, q, p) (simp append_assoc)

-- the last of them
pub last_added : {T E : Type 0} (r : Result T E) (new whole kept : List ℕ)
    → new ≡ (if is_ok r then whole else kept) → OnOk r (new ≡ whole)
last_added (Ok x) new whole kept added = added
last_added (Err e) new whole kept added = tt

-- ---- the lines of a module, by whether it is a program

abbrev IsTold : JsModule → Option SourceDeclarations → Type 0
IsTold it o = MatchOption o (IsNoProgram it.media_type it.text) (HasDeclarations it.media_type it.text true)

pub declared_added : (old new : List ℕ) (url : Parts) (it : JsModule) (o : Option SourceDeclarations)
    (declarations : SourceDeclarations) → o ≡ Some declarations
    → MatchOption o (IsNoProgram it.media_type it.text) (HasDeclarations it.media_type it.text true)
    → new ≡ old ++ declared_lines url declarations → AddsTo (IsDeclaredText url it) old new
declared_added old new url it o declarations is told adds =
    (declared_lines url declarations, program declarations (subst (IsTold it) is told) refl, adds)

pub undeclared_added : (old new : List ℕ) (url : Parts) (it : JsModule) (o : Option SourceDeclarations) → o ≡ None
    → MatchOption o (IsNoProgram it.media_type it.text) (HasDeclarations it.media_type it.text true)
    → new ≡ old ++ undeclared_line url → AddsTo (IsDeclaredText url it) old new
undeclared_added old new url it o is told adds =
    (undeclared_line url, no_program (subst (IsTold it) is told) refl, adds)

-- ---- entries

-- nothing
pub none_added : (P : List ℕ → Type 0) (old : List ℕ) → P [] → AddsTo P old old
none_added P old is = ([], is, sym (append-nil old))

-- one more
one_added : (old now new : List ℕ) (entries : List (Parts × Entry)) (e : Parts × Entry)
    → AddsTo (IsDeclarationsText entries) old now → AddsTo (IsEntryText e.0 e.1) now new
    → AddsTo (IsDeclarationsText (entries ++ e ∷ [])) old new
one_added old now new entries e (text, are, first) (lines, is, added) = (
  text ++ lines,
  more entries text e lines are is,
  added ∙ (ap (λ bytes. bytes ++ lines) first ∙ append_assoc old text lines),
)

pub pair_added : (old now new : List ℕ) (pairs : List (Bor Parts × Bor Entry)) (p : Bor Parts × Bor Entry)
    → AddsTo (IsDeclarationsText (map entry_pair pairs)) old now → AddsTo (IsEntryText p.0.now p.1.now) now new
    → AddsTo (IsDeclarationsText (map entry_pair (pairs ++ p ∷ []))) old new
pair_added old now new pairs p before lines =
    subst (λ (es : List (Parts × Entry)). AddsTo (IsDeclarationsText es) old new) (sym (pairs_more entry_pair pairs p))
    (one_added old now new (map entry_pair pairs) (entry_pair p) before lines)
