-- What other crates may name of the sites of the forms.
use Rattle.std.specs.Prelude.{ℕ, Bool, true, false, ◌&&◌, if◌then◌else◌, List, [], ◌∷◌, ◌++◌, Option, Some, None, All, slice_get}
use Rattle.std.proofs.Common.{◌≡◌, ◌<◌, refl, arith}
use Rattle.std.proofs.lemmas.List.Elements.{All-append, All-push}
use denote.Enum.Bare.{same_true}
use Rattle.es_token.specs.declared.token.Token.{Token}
use Rattle.es_token.specs.declared.token.TokenKind.TheVariants as k
use Rattle.es_token.specs.contracts.token.TokenKind.{the_type}
use Rattle.es_lexer.specs.Reads.{ReadsTokens}
use Rattle.es_lexer.proofs.Theorems.{reads_within, reads_str}
use Rattle.grammar_theory.specs.Key.{same_kind}
use Rattle.es_grammar.specs.declared.cst.tree.Cst.{Cst}
use Rattle.es_site.specs.declared.site.Site.{Site}
use Rattle.es_site.specs.declared.site.Attribute.TheVariants.{Unknown}
use Rattle.es_site.specs.declared.site.DependencyKind.{DependencyKind}
use Rattle.es_site.specs.declared.site.DependencyKind.TheVariants as kind
use Rattle.es_site.specs.Sites.{CutsLiteral, site_at}
use Rattle.es_lowering.specs.Texts.{str_of}
use Rattle.es_scopes.specs.Numbers.{ids, number_at}
use Rattle.es_walk.specs.declared.step.Path.{Path}
use Rattle.es_walk.specs.Part.{part, node_in, number_in}
use Rattle.es_required.specs.Required.{Marks, marks}
use Rattle.es_forms.specs.declared.chosen.Forms.{Forms}
use Rattle.es_forms.specs.declared.steps.Act.{Act}
use Rattle.es_forms.specs.declared.steps.Act.TheVariants as act
use Rattle.es_forms.specs.declared.steps.Place.{Place}
use Rattle.es_forms.specs.declared.steps.Place.TheVariants as place
use Rattle.es_forms.specs.Forms.{Sites, Parts, is_meta, name_in, argument_in, is_require, site_by, site_of, resolved_in, worker_at, address_at, made_at, required_at, located_at, typed_at, acts, rules, forms_in}
use Rattle.es_forms.proofs.EachLemmas.{Each, each_append, each_walked}

module _ (x : List ℕ) (ts : List Token) (reads : ReadsTokens x ts) where
  abbrev IsCut : Site → Type 0
  IsCut site = CutsLiteral x site.range site.value

  literal_cut : (n : ℕ) (t : Token) → slice_get ts n ≡ Some t → same_kind t.kind k.Str ≡ true
      → CutsLiteral x (str_of x t).span (str_of x t).value
  unfolding str_of
  literal_cut n t there e =
      let within = reads_within x ts reads.0 n t reads.1 there in
      let less : t.range.start < t.range.end = within.0 in (
        omega (arith, less),
        within.1,
        reads_str x ts reads.0 n t reads.1 there (same_true the_type tt t.kind k.Str e),
        refl,
      )

  if_string : (named : DependencyKind) (only : Bool) (t : Token) (b : Bool)
      → (b ≡ true → CutsLiteral x (str_of x t).span (str_of x t).value)
      → Each IsCut (if b then site_at named only (str_of x t) Unknown ∷ [] else [])
  if_string named only t true cut = (cut refl, tt)
  if_string named only t false cut = tt

  kept_cut : (named : DependencyKind) (only : Bool) (n : ℕ) (o : Option Token) → slice_get ts n ≡ o
      → Each IsCut (site_by x ts named only o)
  kept_cut named only n (Some t) there = if_string named only t (same_kind t.kind k.Str) (λ e. literal_cut n t there e)
  kept_cut named only n None there = tt

  site_cut : (named : DependencyKind) (only : Bool) (o : Option ℕ) → Each IsCut (site_of x ts named only o)
  site_cut named only (Some n) = kept_cut named only n (slice_get ts n) refl
  site_cut named only None = tt

  if_cut : (b : Bool) (sites : Sites) → Each IsCut sites → Each IsCut (if b then sites else [])
  if_cut true sites each = each
  if_cut false sites each = tt

  module _ (number : ℕ → ℕ) (chosen : Forms) (ms : Marks) where
    required_cut : (p : Parts) → Each IsCut (required_at x ts number chosen ms p)
    required_cut p =
        if_cut (chosen.commonjs && is_require x ts number chosen ms (name_in (node_in (part p 0)))) _
        (each_append IsCut _ _ (site_cut kind.Require false (argument_in (node_in (part p 1))))
        (site_cut kind.RequireResolve false (resolved_in x ts p)))

    located_cut : (p : Parts) → Each IsCut (located_at x ts number chosen ms p)
    located_cut p =
        if_cut (chosen.addresses && is_meta (node_in (part p 0))) _
        (site_cut kind.Address false (resolved_in x ts p))

    made_cut : (here : Place) (p : Parts) (at : Path) (o : Option ℕ)
        → Each IsCut (made_at x ts number chosen ms here p at o)
    made_cut here p at (Some n) = site_cut kind.Worker false (Some n)
    made_cut here p at None = site_cut kind.Address false (address_at x ts number chosen ms here p at)

    act_cut : (here : Place) (p : Parts) (a : Act) → Each IsCut (acts x ts number chosen ms here p a)
    act_cut here p act.Call =
        each_append IsCut (required_at x ts number chosen ms p) (located_at x ts number chosen ms p) (required_cut p)
        (located_cut p)
    act_cut here p (act.New at) = made_cut here p at (worker_at x ts number chosen ms p at)
    act_cut here p act.Type =
        if_cut chosen.type_imports _ (site_cut kind.TypeImport true (number_in (part p 0)))

  none_of : All IsCut []
  none_of k a within = absurd (let bad : ⊥ = omega (arith, within) in bad)

  all_of : (sites : Sites) → Each IsCut sites → All IsCut sites
  all_of [] each = none_of
  all_of (a ∷ sites) each =
      All-append IsCut (a ∷ []) sites (All-push IsCut [] a none_of each.0) (all_of sites each.1)

  -- each form cuts from the text a string literal whose value is the site's
  pub forms_cut : (chosen : Forms) (tree : Cst) → All IsCut (forms_in chosen x ts tree)
  unfolding forms_in
  forms_cut chosen tree =
      all_of (forms_in chosen x ts tree)
      (each_walked IsCut (rules x ts (number_at (ids x ts tree)) chosen (marks x ts tree))
      (act_cut (number_at (ids x ts tree)) chosen (marks x ts tree)) tree place.Plain)
