-- What the tree in the first mode that gives one mentions.
use Rattle.std.specs.Prelude.{ℕ, Bool, List, [], ◌∷◌, Result, Ok, Err, IfOk}
use Rattle.std.specs.Result.{IfErr}
use Rattle.std.proofs.Common.{◌≡◌, inl, inr, ap, ◌∙◌}
use Rattle.es_token.specs.declared.token.Token.{Token}
use Rattle.grammar_theory.specs.declared.error.Lang.{Lang}
use Rattle.grammar_theory.specs.declared.error.Mode.{Mode}
use Rattle.grammar_theory.specs.declared.error.Mode.TheVariants as mode
use Rattle.grammar_theory.specs.declared.error.SyntaxError.{SyntaxError}
use Rattle.grammar_theory.specs.declared.error.SyntaxError.TheVariants.{Syntax, OutOfMemory}
use Rattle.grammar_theory.specs.Key.{Key}
use Rattle.es_grammar.specs.declared.cst.tree.Cst.{Cst}
use Rattle.es_syntax.specs.declared.entry.Entry.{Entry}
use Rattle.es_syntax.specs.Trees.{first_tree, trees}
use Rattle.es_program_reader.specs.Program.{IsKept, HoldsKept}
use Rattle.es_program_reader.specs.Derived.{GivesTree}
use Rattle.es_program_reader.proofs.SoundTheorems.{one_kept}
use Rattle.es_mentions.specs.declared.listed.Mention.{Mention}
use Rattle.es_mentions.specs.Mentions.{mentions}
use Rattle.source_mentions.specs.Answers.{IsFirst, AreOf, Gives}

module _ (x : List ℕ) (ts : List Token) (allowed : List (List ℕ)) (strict : Bool) where
  -- what holds of the tree of these mentions
  pub AreOf-weaker : (P Q : Cst → Type 0) → ((tree : Cst) → P tree → Q tree) → (found : List Mention)
      → AreOf P x ts allowed strict found → AreOf Q x ts allowed strict found
  AreOf-weaker P Q step found of = record { tree = of.tree; is = step of.tree of.is; all = of.all }

  module _ (l : Lang) (m : Mode) (K : List Key) where
    -- what the one tree of a row mentions
    pub kept_made : (es : List Entry) (found : List Mention) → HoldsKept l m K es
        → found ≡ mentions x ts allowed strict (first_tree (trees es)) → AreOf (IsKept l m K) x ts allowed strict found
    kept_made es found holds same = record {
      tree = holds.tree;
      is = holds.kept;
      all = same ∙ ap (λ us. mentions x ts allowed strict (first_tree us)) holds.row;
    }

    -- and no other
    pub only_made : (found : List Mention) (tree : Cst) → AreOf (IsKept l m K) x ts allowed strict found
        → IsKept l m K tree → found ≡ mentions x ts allowed strict tree
    only_made found tree of is =
        of.all ∙ ap (mentions x ts allowed strict) (one_kept l m K of.tree tree of.is is)

    pub kept_given : (es : List Entry) (r : Result (List Mention) SyntaxError) (tree : Cst) → HoldsKept l m K es
        → IfOk r (λ found. found ≡ mentions x ts allowed strict (first_tree (trees es)))
        → IfErr r (λ e. e ≡ OutOfMemory) → IsKept l m K tree → Gives r (mentions x ts allowed strict tree)
    kept_given es (Ok found) tree holds same memory is = only_made found tree (kept_made es found holds same) is
    kept_given es (Err (Syntax token)) tree holds same memory is = let bad : ⊥ = cc in bad
    kept_given es (Err OutOfMemory) tree holds same memory is = tt

-- a refusal of the tree is one of what it mentions
pub refused : (e : SyntaxError) (all : List Mention) (tree : Cst) → GivesTree (Err e) tree → Gives (Err e) all
refused (Syntax token) all tree given = absurd given
refused OutOfMemory all tree given = tt

-- ---- modes
module _ (l : Lang) (K : List Key) where
  pub is_first : (m : Mode) (modes : List Mode) (tree : Cst) → IsKept l m K tree → IsFirst l K (m ∷ modes) tree
  is_first m modes tree is = inl is

  pub only_one : (m : Mode) (tree : Cst) → IsFirst l K (m ∷ []) tree → IsKept l m K tree
  only_one m tree (inl is) = is
  only_one m tree (inr other) = absurd other.1

  pub in_script : (script tree : Cst) → IsKept l mode.Script K script
      → IsFirst l K (mode.Script ∷ mode.Module ∷ []) tree → IsKept l mode.Script K tree
  in_script script tree is (inl kept) = kept
  in_script script tree is (inr other) = absurd (other.0 script is)

  pub no_script : (tree : Cst) → ((other : Cst) → ¬ IsKept l mode.Script K other)
      → IsFirst l K (mode.Module ∷ []) tree → IsFirst l K (mode.Script ∷ mode.Module ∷ []) tree
  no_script tree none is = inr (none, is)

  pub in_module : (tree : Cst) → ((other : Cst) → ¬ IsKept l mode.Script K other)
      → IsFirst l K (mode.Script ∷ mode.Module ∷ []) tree → IsFirst l K (mode.Module ∷ []) tree
  in_module tree none (inl kept) = absurd (none tree kept)
  in_module tree none (inr other) = other.1
