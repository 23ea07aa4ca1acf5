-- Tokens that are read both as a script and as a module have the same sites in both; whether they are read is decided.
use Rattle.std.specs.Prelude.{List, ◌⊎◌}
use Rattle.std.proofs.Common.{◌≡◌, ℕ, length, sym, ap, ◌∙◌, inl, inr}
use Rattle.es_token.specs.declared.token.Token.{Token}
use Rattle.grammar_theory.specs.declared.error.Lang.{Lang}
use Rattle.grammar_theory.specs.declared.error.Mode.{Mode}
use Rattle.grammar_theory.specs.declared.error.Mode.TheVariants as mode
use Rattle.grammar_theory.specs.Key.{keys_of}
use Rattle.grammar_theory.specs.Plain.{Plain, node, made}
use Rattle.es_ast.specs.declared.ast.Program.{Program}
use Rattle.es_grammar.specs.declared.rows.NodeKind.{NodeKind}
use Rattle.es_grammar.specs.declared.rows.NodeKind.TheVariants.{Module, Script}
use Rattle.es_grammar.specs.cst.Slim.{slim, parts_in, tree_of}
use Rattle.es_site.specs.Sites.{sites_of}
use Rattle.es_lowering.specs.derives.Derives.{Derives}
use Rattle.es_law_programs.proofs.total.Theorems.{derives}
use Rattle.es_law_sites.specs.plain.Part.{found}
use Rattle.es_law_sites.specs.plain.Own.{plain_sites}
use Rattle.es_law_sites.proofs.plain.Equations.{part_node}
use Rattle.es_law_sites.proofs.plain.Theorems.{derived_sites}
use Rattle.es_law_programs.proofs.both_modes.Theorems.{same_parts}
use Rattle.es_law_programs.proofs.both_modes.Decided.{decided}

module _ (x : List ℕ) (ts : List Token) where
  -- the sites of a program don't tell a script from a module
  sites_of_parts : (from to : ℕ) (ps : Plain NodeKind)
      → plain_sites x ts (tree_of (node Script from to ps)) ≡ plain_sites x ts (tree_of (node Module from to ps))
  unfolding made
  sites_of_parts from to ps =
      ap found (part_node x ts Script from to (parts_in (made slim ps)))
      ∙ sym (ap found (part_node x ts Module from to (parts_in (made slim ps))))

  -- the trees of both modes have the same sites
  pub same_sites : (l : Lang) (p q : Program) → Derives l mode.Script x ts p → Derives l mode.Module x ts q
      → sites_of p ≡ sites_of q
  same_sites l p q as_script as_module =
      let parts = same_parts l (keys_of ts) as_script.plain as_module.plain as_script.program as_module.program in
      derived_sites l mode.Script x ts p as_script
      ∙ ap (λ (t : Plain NodeKind). plain_sites x ts (tree_of t)) parts.1
      ∙ sites_of_parts 0 (length (keys_of ts)) parts.0
      ∙ ap (λ (t : Plain NodeKind). plain_sites x ts (tree_of t)) (sym parts.2)
      ∙ sym (derived_sites l mode.Module x ts q as_module)

  -- tokens have a tree, or none
  pub derives_or_not : (l : Lang) (m : Mode)
      → ((tree : Program) × Derives l m x ts tree) ⊎ ((tree : Program) → ¬ Derives l m x ts tree)
  derives_or_not l m =
      elim (decided l m (keys_of ts)) [
        | inl plain ↦ (let typed = derives l m x ts plain.0 plain.1 in inl (typed.0, typed.1))
        | inr none ↦ inr (λ tree derived. none derived.plain derived.program)
      ]
