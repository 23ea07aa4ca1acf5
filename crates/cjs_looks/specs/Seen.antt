-- What the looks of expressions mean, whose tokens are told by their numbers.
use Rattle.std.specs.Prelude.{◌≡◌, ℕ, List, [], Option, Some, None, slice_get, IfSome}
use Rattle.es_token.specs.declared.token.Token.{Token}
use Rattle.es_lowering.specs.Texts.{ident_of, str_of}
use Rattle.cjs_looks.specs.declared.looks.Key.{Key as Seen}
use Rattle.cjs_looks.specs.declared.looks.Key.TheVariants as key
use Rattle.cjs_looks.specs.declared.looks.Object.{Object as SeenObject}
use Rattle.cjs_looks.specs.declared.looks.Object.TheVariants as object
use Rattle.cjs_looks.specs.declared.looks.Look.{Look as SeenLook}
use Rattle.cjs_looks.specs.declared.looks.Look.TheVariants as seen
use Rattle.cjs_facts.specs.Looks.{Name, Key, dotted, keyed, odd_key, bracket, Object, one, within, odd_object, Look, named, text, member, other, required_by}

abbrev pub name_of : List ℕ → Option Token → Name
name_of x (Some t) = (ident_of x t).sym
name_of x None = []

abbrev pub text_of : List ℕ → Option Token → Look
text_of x (Some t) = text (str_of x t).lone (str_of x t).value
text_of x None = other

module _ (x : List ℕ) (ts : List Token) where
  abbrev pub name_at : ℕ → Name
  name_at n = name_of x (slice_get ts n)

  abbrev pub text_at : ℕ → Look
  text_at n = text_of x (slice_get ts n)

  abbrev pub key_of : Seen → Key
  key_of (key.Dotted n) = dotted (name_at n)
  key_of (key.Quoted n) = bracket (text_at n)
  key_of (key.Keyed n) = keyed (name_at n)
  key_of key.Odd = odd_key

  abbrev pub object_of : SeenObject → Object
  object_of (object.One n) = one (name_at n)
  object_of (object.Within n k) = within (name_at n) (key_of k)
  object_of object.Odd = odd_object

  abbrev pub look_of : SeenLook → Look
  look_of (seen.Named n) = named (name_at n)
  look_of (seen.Text n) = text_at n
  look_of (seen.Member o k) = member (object_of o) (key_of k)
  look_of (seen.Requires n) = required_by (text_at n)
  look_of seen.Other = other

-- where the part is there, it is told so
pub record Tells {A B : Type 0} (f : A → B) (part : Option A) (answer : B) : Type 0 where
  pub told : IfSome part (λ a. f a ≡ answer)
