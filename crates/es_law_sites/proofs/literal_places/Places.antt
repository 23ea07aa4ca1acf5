-- Where string literals stand in a plain tree: what is claimed of the forms of nodes, and what follows for their parts.
use Rattle.std.specs.Prelude.{List, Bool, true, false, not, ◌||◌, Option}
use Rattle.std.proofs.Common.{◌≡◌, ℕ, zero, suc, ◌+◌, sym, subst, inl, inr}
use Rattle.es_token.specs.declared.token.TokenKind.{TokenKind}
use Rattle.es_token.specs.declared.token.TokenKind.TheVariants as k
use Rattle.grammar_theory.specs.Key.{Key, Seen, seen, has_kind, is}
use Rattle.grammar_theory.specs.Productions.{Rhs, done, tok, punct, row, opt, many, alt, when_, where_}
use Rattle.grammar_theory.specs.Plain.{Plain, node, leaf, nil, cons, mark, turn, via}
use Rattle.grammar_theory.specs.Fits.{Reading, Fits}
use Rattle.grammar_theory.proofs.OutLemmas.{clash}
use Rattle.grammar_theory.proofs.EachKind.{holds_everywhere, holds_of_each}
use Rattle.es_grammar.specs.declared.rows.Row.{Row}
use Rattle.es_grammar.specs.declared.rows.NodeKind.{NodeKind}
use Rattle.es_grammar.specs.declared.rows.NodeKind.TheVariants.{BareImport, FromImport, SourceImport, DeferImport, RequireImport, ExportedRequireImport, ExportAll, ExportNames, Str, StrKey, ModuleDeclaration, StrType, ImportType, StrKeyOfType, StrPatternKey}
use Rattle.es_law_sites.proofs.shapes.FormedLemmas.{Any}

-- a token of these kinds is a string literal
abbrev only_str : (TokenKind → Bool) → Bool
only_str may = holds_everywhere (λ x. not (has_kind may x) || is k.Str x)

-- the part at this place, counted from 0 without tokens that are dropped, is a string literal
abbrev str_part : Rhs Row → ℕ → Bool
str_part done n = false
str_part (tok s may f) zero = only_str may
str_part (tok s may f) (suc n) = str_part f n
str_part (punct k f) n = str_part f n
str_part (row r f) zero = false
str_part (row r f) (suc n) = str_part f n
str_part (opt c g f) zero = false
str_part (opt c g f) (suc n) = str_part f n
str_part (many c g f) zero = false
str_part (many c g f) (suc n) = str_part f n
str_part (alt t a b f) zero = false
str_part (alt t a b f) (suc n) = str_part f n
str_part (when_ t f) n = str_part f n
str_part (where_ t f) n = str_part f n

-- the part at this place may be absent, and begins with a string literal
abbrev str_group : Rhs Row → ℕ → Bool
str_group done n = false
str_group (tok s may f) zero = false
str_group (tok s may f) (suc n) = str_group f n
str_group (punct k f) n = str_group f n
str_group (row r f) zero = false
str_group (row r f) (suc n) = str_group f n
str_group (opt c g f) zero = str_part g 0
str_group (opt c g f) (suc n) = str_group f n
str_group (many c g f) zero = false
str_group (many c g f) (suc n) = str_group f n
str_group (alt t a b f) zero = false
str_group (alt t a b f) (suc n) = str_group f n
str_group (when_ t f) n = str_group f n
str_group (where_ t f) n = str_group f n

-- the form of a node of this alternative
abbrev pub names : NodeKind → Rhs Row → Bool
names BareImport f = str_part f 0
names FromImport f = str_part f 2
names SourceImport f = str_part f 1
names DeferImport f = str_part f 1
names RequireImport f = str_part f 2
names ExportedRequireImport f = str_part f 2
names ExportAll f = str_part f 2
names ExportNames f = str_group f 2
names Str f = str_part f 0
names StrKey f = str_part f 0
names ModuleDeclaration f = str_part f 0
names StrType f = str_part f 0
names ImportType f = str_part f 0
names StrKeyOfType f = str_part f 0
names StrPatternKey f = str_part f 0
names _ f = true

-- a string literal
abbrev pub IsStr : List Key → Plain NodeKind → Type 0
IsStr K (leaf s n) = is k.Str (seen K n) ≡ true
IsStr K _ = ⊥

-- the part at this place, without tokens that are dropped, is a string literal
abbrev pub StrPart : List Key → Plain NodeKind → ℕ → Type 0
StrPart K (cons p ps) zero = IsStr K p
StrPart K (cons p ps) (suc n) = StrPart K ps n
StrPart K (mark at ps) n = StrPart K ps n
StrPart K _ n = ⊥

-- nothing, or parts that begin with a string literal
abbrev pub MayBeStr : List Key → Plain NodeKind → Type 0
MayBeStr K nil = Unit {0}
MayBeStr K (cons p ps) = StrPart K (cons p ps) 0
MayBeStr K (mark at ps) = StrPart K (mark at ps) 0
MayBeStr K _ = ⊥

-- the part at this place is that
abbrev pub StrGroup : List Key → Plain NodeKind → ℕ → Type 0
StrGroup K (cons p ps) zero = MayBeStr K p
StrGroup K (cons p ps) (suc n) = StrGroup K ps n
StrGroup K (mark at ps) n = StrGroup K ps n
StrGroup K _ n = ⊥

-- the parts of a node of this alternative
abbrev pub Names : List Key → NodeKind → Plain NodeKind → Type 0
Names K BareImport ps = StrPart K ps 0
Names K FromImport ps = StrPart K ps 2
Names K SourceImport ps = StrPart K ps 1
Names K DeferImport ps = StrPart K ps 1
Names K RequireImport ps = StrPart K ps 2
Names K ExportedRequireImport ps = StrPart K ps 2
Names K ExportAll ps = StrPart K ps 2
Names K ExportNames ps = StrGroup K ps 2
Names K Str ps = StrPart K ps 0
Names K StrKey ps = StrPart K ps 0
Names K ModuleDeclaration ps = StrPart K ps 0
Names K StrType ps = StrPart K ps 0
Names K ImportType ps = StrPart K ps 0
Names K StrKeyOfType ps = StrPart K ps 0
Names K StrPatternKey ps = StrPart K ps 0
Names K _ ps = Unit {0}

only_is : (may : TokenKind → Bool) (x : Option Seen) → only_str may ≡ true → has_kind may x ≡ true → is k.Str x ≡ true
only_is may x e h = implied (has_kind may x) (is k.Str x) (holds_of_each (λ x. not (has_kind may x) || is k.Str x) e x)
    h
  where
    implied : (a b : Bool) → (not a || b) ≡ true → a ≡ true → b ≡ true
    implied true b e h = e
    implied false b e h = clash h

module _ (h : Reading) (K : List Key) where
  -- places are moved along an equation of parts
  part_moved : (n : ℕ) (p q : Plain NodeKind) → p ≡ q → StrPart K q n → StrPart K p n
  part_moved n p q e there = let P : Plain NodeKind → Type 0 = λ t. StrPart K t n in subst P (sym e) there

  group_moved : (n : ℕ) (p q : Plain NodeKind) → p ≡ q → StrGroup K q n → StrGroup K p n
  group_moved n p q e there = let P : Plain NodeKind → Type 0 = λ t. StrGroup K t n in subst P (sym e) there

  may_moved : (p q : Plain NodeKind) → p ≡ q → MayBeStr K q → MayBeStr K p
  may_moved p q e there = let P : Plain NodeKind → Type 0 = λ t. MayBeStr K t in subst P (sym e) there

  part_holds : (f : Rhs Row) (n : ℕ) (p : Plain NodeKind) (from to : ℕ) → str_part f n ≡ true → Fits h K Any f p from to
      → StrPart K p n
  part_holds done n p from to e fit = clash e
  part_holds (tok s may f) zero p from to e fit =
      part_moved 0 p (cons (leaf s from) fit.0) fit.1 (only_is may (seen K from) e fit.2)
  part_holds (tok s may f) (suc n) p from to e fit =
      part_moved (suc n) p (cons (leaf s from) fit.0) fit.1 (part_holds f n fit.0 (from + 1) to e fit.3)
  part_holds (punct k f) n p from to e fit =
      part_moved n p (mark from fit.0) fit.1 (part_holds f n fit.0 (from + 1) to e fit.3)
  part_holds (row r f) zero p from to e fit = clash e
  part_holds (row r f) (suc n) p from to e fit =
      part_moved (suc n) p (cons fit.0 fit.1) fit.3 (part_holds f n fit.1 fit.2 to e fit.5)
  part_holds (opt c g f) zero p from to e fit = clash e
  part_holds (opt c g f) (suc n) p from to e fit =
      part_moved (suc n) p (cons fit.0 fit.1) fit.3 (part_holds f n fit.1 fit.2 to e fit.5)
  part_holds (many c g f) zero p from to e fit = clash e
  part_holds (many c g f) (suc n) p from to e fit =
      part_moved (suc n) p (cons fit.0 fit.1) fit.3 (part_holds f n fit.1 fit.2 to e fit.5)
  part_holds (alt t a b f) zero p from to e fit = clash e
  part_holds (alt t a b f) (suc n) p from to e fit =
      part_moved (suc n) p (cons fit.0 fit.1) fit.3 (part_holds f n fit.1 fit.2 to e fit.5)
  part_holds (when_ t f) n p from to e fit = part_holds f n p from to e fit.1
  part_holds (where_ t f) n p from to e fit = part_holds f n p from to e fit.1

  may_of : (p : Plain NodeKind) → StrPart K p 0 → MayBeStr K p
  may_of (node l from to ps) there = absurd there
  may_of (leaf s n) there = absurd there
  may_of nil there = absurd there
  may_of (cons p ps) there = there
  may_of (mark at ps) there = there
  may_of (turn p ps) there = absurd there
  may_of (via w p) there = absurd there

  group_holds : (f : Rhs Row) (n : ℕ) (p : Plain NodeKind) (from to : ℕ) → str_group f n ≡ true
      → Fits h K Any f p from to
      → StrGroup K p n
  group_holds done n p from to e fit = clash e
  group_holds (tok s may f) zero p from to e fit = clash e
  group_holds (tok s may f) (suc n) p from to e fit =
      group_moved (suc n) p (cons (leaf s from) fit.0) fit.1 (group_holds f n fit.0 (from + 1) to e fit.3)
  group_holds (punct k f) n p from to e fit =
      group_moved n p (mark from fit.0) fit.1 (group_holds f n fit.0 (from + 1) to e fit.3)
  group_holds (row r f) zero p from to e fit = clash e
  group_holds (row r f) (suc n) p from to e fit =
      group_moved (suc n) p (cons fit.0 fit.1) fit.3 (group_holds f n fit.1 fit.2 to e fit.5)
  group_holds (opt c g f) zero p from to e fit =
      group_moved 0 p (cons fit.0 fit.1) fit.3 (elim fit.4 [
        | inl there ↦ may_of fit.0 (part_holds g 0 fit.0 from fit.2 e there.1)
        | inr absent ↦ may_moved fit.0 nil absent.1 tt
      ])
  group_holds (opt c g f) (suc n) p from to e fit =
      group_moved (suc n) p (cons fit.0 fit.1) fit.3 (group_holds f n fit.1 fit.2 to e fit.5)
  group_holds (many c g f) zero p from to e fit = clash e
  group_holds (many c g f) (suc n) p from to e fit =
      group_moved (suc n) p (cons fit.0 fit.1) fit.3 (group_holds f n fit.1 fit.2 to e fit.5)
  group_holds (alt t a b f) zero p from to e fit = clash e
  group_holds (alt t a b f) (suc n) p from to e fit =
      group_moved (suc n) p (cons fit.0 fit.1) fit.3 (group_holds f n fit.1 fit.2 to e fit.5)
  group_holds (when_ t f) n p from to e fit = group_holds f n p from to e fit.1
  group_holds (where_ t f) n p from to e fit = group_holds f n p from to e fit.1

  pub names_hold : (l : NodeKind) (f : Rhs Row) (p : Plain NodeKind) (from to : ℕ) → names l f ≡ true
      → Fits h K Any f p from to
      → Names K l p
  names_hold BareImport f p from to e fit = part_holds f 0 p from to e fit
  names_hold FromImport f p from to e fit = part_holds f 2 p from to e fit
  names_hold SourceImport f p from to e fit = part_holds f 1 p from to e fit
  names_hold DeferImport f p from to e fit = part_holds f 1 p from to e fit
  names_hold RequireImport f p from to e fit = part_holds f 2 p from to e fit
  names_hold ExportedRequireImport f p from to e fit = part_holds f 2 p from to e fit
  names_hold ExportAll f p from to e fit = part_holds f 2 p from to e fit
  names_hold ExportNames f p from to e fit = group_holds f 2 p from to e fit
  names_hold Str f p from to e fit = part_holds f 0 p from to e fit
  names_hold StrKey f p from to e fit = part_holds f 0 p from to e fit
  names_hold ModuleDeclaration f p from to e fit = part_holds f 0 p from to e fit
  names_hold StrType f p from to e fit = part_holds f 0 p from to e fit
  names_hold ImportType f p from to e fit = part_holds f 0 p from to e fit
  names_hold StrKeyOfType f p from to e fit = part_holds f 0 p from to e fit
  names_hold StrPatternKey f p from to e fit = part_holds f 0 p from to e fit
  names_hold _ f p from to e fit = tt
