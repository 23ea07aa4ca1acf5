-- What grows by a name, by nothing, and by one part after another.
use Rattle.std.specs.Prelude.{ℕ, List, [], ◌∷◌, Option, Some, None, option_map, map, slice_get, slice_range}
use Rattle.std.proofs.Common.{◌≡◌, sym, ap, subst, ◌∙◌}
use Rattle.es_token.specs.declared.token.Token.{Token}
use Rattle.es_lowering.specs.Value.{Value, nil, more, given, as_group, turns}
use Rattle.es_lowering.specs.Texts.{ident_of}
use Rattle.es_variables.specs.declared.ident.Ident.{Ident as Named}
use Rattle.es_variables.specs.Kept.{Names}
use Rattle.dts_rules.specs.Sets.{Id, Numbers, Sets, no_sets, both, all_sets, where_}
use Rattle.dts_sets.specs.declared.known.Flags.{Flags}
use Rattle.dts_sets.specs.declared.known.Known.{Known}
use Rattle.dts_sets.specs.Ids.{Extends, Numbered}
use Rattle.dts_sets.specs.Known.{Grown, Adds, flagged, ident_sets}
use Rattle.dts_sets.proofs.NameLemmas.{extends_same, extends_both}

pub grown_none : (it : Known) → Grown it it no_sets
grown_none it = record
    { typeofs = extends_same it.typeofs; plain = extends_same it.plain; arrays = extends_same it.arrays }

pub grown_both : (old mid new : Known) (s t : Sets) → Grown old mid s → Grown mid new t → Grown old new (both s t)
grown_both old mid new s t a b = record {
  typeofs = extends_both old.typeofs mid.typeofs new.typeofs s.typeofs t.typeofs a.typeofs b.typeofs;
  plain = extends_both old.plain mid.plain new.plain s.plain t.plain a.plain b.plain;
  arrays = extends_both old.arrays mid.arrays new.arrays s.arrays t.arrays a.arrays b.arrays;
}

pub grown_name : (old new : Known) (flags : Flags) (id : Id)
    → Extends old.typeofs new.typeofs (where_ flags.typeofs id) → Extends old.plain new.plain (where_ flags.plain id)
    → Extends old.arrays new.arrays (where_ flags.arrays id) → Grown old new (flagged flags id)
grown_name old new flags id a b c = record { typeofs = a; plain = b; arrays = c }

-- a name that its token is, with the number that stands there
pub adds_ident : (x : List ℕ) (ts : List Token) (ids : List ℕ) (number : Numbers) (flags : Flags) (at : ℕ) (it : Named)
    (old new : Known) → Numbered ts ids number → Names x ts ids at it
    → Grown old new (flagged flags (it.sym.now, it.ctxt))
    → Adds (ident_sets flags number) old new (option_map (ident_of x) (slice_get ts at))
unfolding ident_of
adds_ident x ts ids number flags at it old new numbered names grown =
    let t = names.token in
    let P : Option Token → Type 0 = λ o. Adds (ident_sets flags number) old new (option_map (ident_of x) o) in
    let Q : List ℕ → Type 0 = λ q. Grown old new (flagged flags (q, it.ctxt)) in
    let R : ℕ → Type 0 = λ n. Grown old new (flagged flags (slice_range x t.range.start t.range.end, n)) in
    subst P (sym names.there)
    (record { added = subst R (names.ctxt ∙ sym (numbered at t names.there)) (subst Q names.sym grown) })

pub adds_no_ident : (x : List ℕ) (ts : List Token) (number : Numbers) (flags : Flags) (at : ℕ) (it : Known)
    → slice_get ts at ≡ None → Adds (ident_sets flags number) it it (option_map (ident_of x) (slice_get ts at))
adds_no_ident x ts number flags at it none =
    let P : Option Token → Type 0 = λ o. Adds (ident_sets flags number) it it (option_map (ident_of x) o) in
    subst P (sym none) (record { added = tt })

-- ---- parts that may be absent
pub given_any : {A B : Type 0} (f : B → Sets) {old new : Known} (o : Option A) {make : A → Option B}
    → ((it : A) → Adds f old new (make it)) → Adds f old new (given o make)
given_any f None a = record { added = tt }
given_any f (Some it) a = a it

pub grown_by : (old new : Known) (s t : Sets) → s ≡ t → Grown old new s → Grown old new t
grown_by old new s t e g = let P : Sets → Type 0 = λ s. Grown old new s in subst P e g

-- ---- lists
pub adds_none : {A : Type 0} (f : A → Sets) (it : Known) → Adds (λ them. all_sets (map f them)) it it (Some [])
adds_none f it = record { added = grown_none it }

pub adds_more : {A : Type 0} (f : A → Sets) (old mid new : Known) (o : Option A) (os : Option (List A))
    → Adds f old mid o
    → Adds (λ them. all_sets (map f them)) mid new os
    → Adds (λ them. all_sets (map f them)) old new (given o (λ a. given os (λ rest. Some (a ∷ rest))))
adds_more f old mid new None os a b = record { added = tt }
adds_more f old mid new (Some it) None a b = record { added = tt }
adds_more f old mid new (Some it) (Some rest) a b =
    record { added = grown_both old mid new (f it) (all_sets (map f rest)) a.added b.added }

-- if what is left adds these names to those found by now, all turns add them to those found before
pub record TurnsLeft {A : Type 0} (f : A → Sets) (one : Value → Option A) (start now : Known) (all left : Value)
    : Type 0 where
  pub adds : (new : Known) → Adds (λ them. all_sets (map f them)) now new (turns one left)
      → Adds (λ them. all_sets (map f them)) start new (turns one all)

pub turns_all : {A : Type 0} (f : A → Sets) (one : Value → Option A) (start : Known) (all : Value)
    → TurnsLeft f one start start all all
turns_all f one start all = record { adds = λ new a. a }

pub turns_next : {A : Type 0} (f : A → Sets) (one : Value → Option A) (start now next : Known) (all left v rest : Value)
    → left ≡ more v rest → TurnsLeft f one start now all left → Adds f now next (one (as_group v))
    → TurnsLeft f one start next all rest
turns_next f one start now next all left v rest e before a = record {
  adds = λ new b.
      before.adds new (subst (λ (w : Value). Adds (λ them. all_sets (map f them)) now new (turns one w)) (sym e)
      (adds_more f now next new (one (as_group v)) (turns one rest) a b));
}

pub turns_done : {A : Type 0} (f : A → Sets) (one : Value → Option A) (start now : Known) (all left : Value)
    → left ≡ nil → TurnsLeft f one start now all left → Adds (λ them. all_sets (map f them)) start now (turns one all)
turns_done f one start now all left e before =
    before.adds now (subst (λ (w : Value). Adds (λ them. all_sets (map f them)) now now (turns one w)) (sym e)
    (adds_none f now))

-- ---- what a view is
pub adds_by : {A V : Type 0} (f : A → Sets) (old new : Known) (o : Option A) (the : V → Option A) (v w : V) → o ≡ the v
    → v ≡ w
    → Adds f old new (the w) → Adds f old new o
adds_by {A} f old new o the v w form is a =
    let P : Option A → Type 0 = λ o. Adds f old new o in subst P (sym (form ∙ ap the is)) a
