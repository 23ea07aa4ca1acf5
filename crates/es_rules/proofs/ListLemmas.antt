-- What a loop over the turns of a list writes of what the table's reader answers.
use Rattle.std.specs.Prelude.{List, [], ◌∷◌, ◌++◌, Ok, Bool, true, false, max}
use Rattle.std.proofs.Common.{◌≡◌, ℕ, zero, suc, ◌-◌, refl, sym, ap, ◌∙◌, subst, arith}
use Rattle.std.proofs.lemmas.List.{append-nil, append_assoc}
use Rattle.grammar_theory.specs.declared.error.SyntaxError.{SyntaxError}
use Rattle.grammar_theory.specs.Key.{Key}
use Rattle.grammar_theory.specs.Productions.{Predicate}
use Rattle.grammar_theory.specs.Reader.{Out, nothing, gives, and_then, changed, read_turns}
use Rattle.grammar_theory.proofs.OutLemmas.{then_gives, change_gives, either_true}
use Rattle.es_grammar.specs.declared.cst.tree.Cst.{Cst}
use Rattle.es_grammar.specs.cst.Slim.{tree_in}
use Rattle.es_syntax.specs.declared.entry.Entry.{Entry}
use Rattle.es_syntax.specs.Written.{opened}
use Rattle.es_rules.specs.declared.cursor.Cursor.{Cursor}
use Rattle.es_rules.specs.Bounded.{Read, makes}
use Rattle.es_rules.specs.Steps.{group, with_more, Writes, IsRefused, IsPart, Adds}
use Rattle.es_rules.proofs.FormLemmas.{writes_none, writes_both, keeps_written, keeps_past, keeps_opened, cons_same}

-- the turns that were read stand behind the group that is open; what is left of the list, behind them
pub record IsLeft (keeps : Bool) (whole rest : Out Read) (h : ℕ) (mid row : List Entry) : Type 0 where
  pub trees : List Cst
  pub written : Writes keeps mid row trees
  pub stuck : rest ≡ nothing → whole ≡ nothing
  pub ends : (us : List Cst) (g : ℕ) (to : ℕ) → rest ≡ gives (group us g) to
      → whole ≡ gives (group (trees ++ us) (max h g)) to

-- nothing is read yet
pub left_start : (keeps : Bool) (whole rest : Out Read) (mid row : List Entry) → row ≡ mid → rest ≡ whole
    → IsLeft keeps whole rest 0 mid row
left_start keeps whole rest mid row e same = record {
  trees = [];
  written = subst (λ (es : List Entry). Writes keeps mid es []) (sym e) (writes_none keeps mid);
  stuck = λ e. sym same ∙ e;
  ends = λ us g to e. sym same ∙ (e ∙ ap (λ n. gives (group us n) to) (let low : g ≡ max 0 g = omega arith in low));
}

module _ (keeps : Bool) (K : List Key) (t : Predicate) (each : ℕ → Out Read) (whole : Out Read) (mid : List Entry) where
  -- one more turn
  push_suc : (n h k : ℕ) (old new : Cursor)
      → IsLeft keeps whole (read_turns makes K t each (suc n) old.at) h mid old.row
      → t K old.at ≡ true → IsPart keeps (each old.at) old.row new (Ok k)
      → IsLeft keeps whole (read_turns makes K t each n new.at) (max h k) mid new.row
  unfolding read_turns
  push_suc n h k old new left here part =
      let tree = tree_in part.0.value in
      let first : read_turns makes K t each (suc n) old.at
      ≡ changed (makes.of_turn part.0) (read_turns makes K t each n new.at) =
      either_true (t K old.at)
      (and_then (each old.at) (λ q here. changed (makes.of_turn q) (read_turns makes K t each n here)))
      (gives makes.of_nil old.at) (changed (makes.of_turn part.0) (read_turns makes K t each n new.at)) here
      (then_gives (each old.at) (λ q here. changed (makes.of_turn q) (read_turns makes K t each n here)) part.0 new.at
      (changed (makes.of_turn part.0) (read_turns makes K t each n new.at)) part.3 refl) in
      record {
        trees = left.trees ++ tree ∷ [];
        written = writes_both keeps mid old.row new.row left.trees (tree ∷ []) left.written part.1;
        stuck = λ e. left.stuck (first ∙ ap (changed (makes.of_turn part.0)) e);
        ends = λ us g to e.
            left.ends (tree ∷ us) (max k g) to
            (first ∙ change_gives (makes.of_turn part.0) (read_turns makes K t each n new.at) (group us g)
            (group (tree ∷ us) (max k g)) to e (cons_same part.0 k us g part.2))
            ∙ ap (λ l. gives (group l (max h (max k g))) to) (sym (append_assoc left.trees (tree ∷ []) us))
            ∙ ap (λ j. gives (group ((left.trees ++ tree ∷ []) ++ us) j) to)
            (let same : max h (max k g) ≡ max (max h k) g = omega arith in same);
      }

  pub left_push : (n h k : ℕ) (old new : Cursor) (after : ℕ) → (n ≡ 0 → ⊥)
      → IsLeft keeps whole (read_turns makes K t each n old.at) h mid old.row → t K old.at ≡ true
      → IsPart keeps (each old.at) old.row new (Ok k) → after ≡ max h k
      → IsLeft keeps whole (read_turns makes K t each (n - 1) new.at) after mid new.row
  left_push zero h k old new after some left here part high = absurd (some refl)
  left_push (suc n) h k old new after some left here part high =
      let e : suc n - 1 ≡ n = omega arith in rw (e, high) (push_suc n h k old new left here part)

  -- a turn that can't be read
  pub left_stuck : (n h : ℕ) (old : Cursor) (new : List Entry) (e : SyntaxError)
      → IsLeft keeps whole (read_turns makes K t each n old.at) h mid old.row
      → t K old.at ≡ true → IsRefused keeps (each old.at) old.row new e → IsRefused keeps whole mid new e
  unfolding read_turns
  left_stuck n h old new e left here told =
      (keeps_past keeps mid old.row new left.trees left.written told.0, λ memory. go n left (told.1 memory))
    where
      go : (n : ℕ) → IsLeft keeps whole (read_turns makes K t each n old.at) h mid old.row → each old.at ≡ nothing
          → whole ≡ nothing
      go zero left e = left.stuck (rw here refl)
      go (suc n) left e = left.stuck (rw (here, e) refl)

  -- more turns than there may be
  pub left_full : (n h : ℕ) (old : Cursor) (e : SyntaxError) → n ≡ 0
      → IsLeft keeps whole (read_turns makes K t each n old.at) h mid old.row
      → t K old.at ≡ true → IsRefused keeps whole mid old.row e
  unfolding read_turns
  left_full n h old e none left here =
      (keeps_written keeps mid old.row left.trees left.written, λ memory. left.stuck (rw (none, here) refl))

  -- no more turns
  last_turn : (n at : ℕ) → t K at ≡ false → read_turns makes K t each n at ≡ gives (group [] 0) at
  unfolding read_turns
  last_turn zero at e = rw e refl
  last_turn (suc n) at e = rw e refl

  pub left_none : (n h : ℕ) (old : Cursor) → IsLeft keeps whole (read_turns makes K t each n old.at) h mid old.row
      → t K old.at ≡ false → Adds keeps whole mid old (Ok h)
  left_none n h old left e = (
    left.trees,
    left.written,
    left.ends [] 0 old.at (last_turn n old.at e)
        ∙ (ap (λ l. gives (group l (max h 0)) old.at) (append-nil left.trees)
        ∙ ap (λ k. gives (group left.trees k) old.at) (let low : max h 0 ≡ h = omega arith in low)),
  )

-- a list can't be read
pub list_refused : (keeps : Bool) (out : Out Read) (old mid new : List Entry) (e : SyntaxError)
    → mid ≡ with_more keeps old opened
    → IsRefused keeps out mid new e → IsRefused keeps out old new e
list_refused keeps out old mid new e written told = (keeps_opened keeps old mid new written told.0, told.1)
