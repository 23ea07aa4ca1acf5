-- What strings and names say.
use Rattle.std.specs.Prelude.{ℕ, Bool, true, false, List, Option, Some, None, bytes_eq, if◌then◌else◌}
use Rattle.std.proofs.Common.{◌≡◌, refl, sym, ap, ◌∙◌}
use Rattle.es_token.specs.declared.token.Token.{Token}
use Rattle.es_lowering.specs.Texts.{str_of}
use Rattle.cjs_facts.specs.declared.found.Found.{Found}
use Rattle.cjs_facts.specs.declared.found.Var.{Var}
use Rattle.cjs_facts.specs.Looks.{Name, Key, quoted, odd_key, one}
use Rattle.cjs_facts.specs.Looks.{Look, text, member, requires, other, bracket, required_by}
use Rattle.cjs_facts.specs.Exports.{says, exports_like, is_define, is_star, is_exports, starred, bind, module_at}
use Rattle.cjs_facts.specs.Exports.{key_found, with_var, with_export, with_reexport, with_one_reexport, required_found}
use Rattle.cjs_looks.specs.Seen.{text_of}
use Rattle.cjs_looks.specs.steps.Values.{value_by}

-- ---- strings, and what is required by them
-- what is so of all strings and of nothing
at_text : {A : Type 0} (f : Look → A) (c : A) → ((lone : Bool) (value : Name) → f (text lone value) ≡ c)
    → f other ≡ c → (x : List ℕ) (t : Option Token) → f (text_of x t) ≡ c
at_text f c each none x None = none
at_text f c each none x (Some t) = each (str_of x t).lone (str_of x t).value

-- what is so of all that is required and of nothing
at_required : {A : Type 0} (f : Look → A) (c : A) → ((name : Name) → f (requires name) ≡ c) → f other ≡ c
    → (x : List ℕ) (t : Option Token) → f (required_by (text_of x t)) ≡ c
at_required f c each none x None = none
at_required f c each none x (Some t) = go (str_of x t).value (str_of x t).lone
  where
    go : (value : Name) (b : Bool) → f (if b then other else requires value) ≡ c
    go value true = none
    go value false = each value

-- what is so of all keys of strings
at_bracket : {A : Type 0} (f : Key → A) (c : A) → ((name : Name) → f (quoted name) ≡ c) → f odd_key ≡ c
    → (x : List ℕ) (t : Option Token) → f (bracket (text_of x t)) ≡ c
at_bracket f c each none x None = none
at_bracket f c each none x (Some t) = go (str_of x t).value (str_of x t).lone
  where
    go : (value : Name) (b : Bool) → f (if b then odd_key else quoted value) ≡ c
    go value true = none
    go value false = each value

module _ (x : List ℕ) (t : Option Token) where
  pub like_text : exports_like (text_of x t) ≡ false
  like_text = at_text exports_like false (λ lone value. refl) refl x t

  pub like_required : exports_like (required_by (text_of x t)) ≡ false
  like_required = at_required exports_like false (λ name. refl) refl x t

  pub exports_text : is_exports (text_of x t) ≡ false
  exports_text = at_text is_exports false (λ lone value. refl) refl x t

  pub exports_required : is_exports (required_by (text_of x t)) ≡ false
  exports_required = at_required is_exports false (λ name. refl) refl x t

  pub define_text : is_define (text_of x t) ≡ false
  define_text = at_text is_define false (λ lone value. refl) refl x t

  pub define_required : is_define (required_by (text_of x t)) ≡ false
  define_required = at_required is_define false (λ name. refl) refl x t

  pub define_quoted : (name : Name) → is_define (member (one name) (bracket (text_of x t))) ≡ false
  define_quoted name = at_bracket (λ key. is_define (member (one name) key)) false (λ name. refl) refl x t

  pub star_text : is_star (text_of x t) ≡ false
  star_text = at_text is_star false (λ lone value. refl) refl x t

  pub star_required : is_star (required_by (text_of x t)) ≡ false
  star_required = at_required is_star false (λ name. refl) refl x t

  pub star_quoted : (name : Name) → is_star (member (one name) (bracket (text_of x t))) ≡ false
  star_quoted name = at_bracket (λ key. is_star (member (one name) key)) false (λ name. refl) refl x t

  pub starred_text : (f : Found) → starred (text_of x t) f ≡ f
  starred_text f = at_text (λ l. starred l f) f (λ lone value. refl) refl x t

  pub bind_text : (name : Option Name) (f : Found) → bind name (text_of x t) f ≡ f
  bind_text None f = refl
  bind_text (Some name) f = at_text (λ l. bind (Some name) l f) f (λ lone value. refl) refl x t

  pub module_at_text : (vars : List Var) (k : Name) → module_at vars k (text_of x t) ≡ None
  module_at_text vars k = at_text (λ l. module_at vars k l) None (λ lone value. refl) refl x t

  pub module_at_required : (vars : List Var) (k : Name) → module_at vars k (required_by (text_of x t)) ≡ None
  module_at_required vars k = at_required (λ l. module_at vars k l) None (λ name. refl) refl x t

  pub module_at_quoted : (vars : List Var) (k name : Name)
      → module_at vars k (member (one name) (bracket (text_of x t))) ≡ None
  module_at_quoted vars k name =
      at_bracket (λ key. module_at vars k (member (one name) key)) None (λ name. refl) refl x t

  pub required_text : (f : Found) → required_found (text_of x t) f ≡ f
  required_text f = at_text (λ l. required_found l f) f (λ lone value. refl) refl x t

-- ---- by the value of a string
-- what stands in brackets, by the value of the string that it is
abbrev bracket_by : Option Name → Key
bracket_by (Some name) = quoted name
bracket_by None = odd_key

bracket_value : (x : List ℕ) (t : Option Token) → bracket (text_of x t) ≡ bracket_by (value_by (text_of x t))
bracket_value x None = refl
bracket_value x (Some t) = go (str_of x t).value (str_of x t).lone
  where
    go : (value : Name) (b : Bool)
        → (if b then odd_key else quoted value) ≡ bracket_by (if b then None else Some value)
    go value true = refl
    go value false = refl

pub says_value : (x : List ℕ) (t : Option Token) (value word : Name) → Some value ≡ value_by (text_of x t)
    → says (bracket (text_of x t)) word ≡ bytes_eq value word
says_value x t value word e =
    ap (λ (key : Key). says key word) (bracket_value x t)
    ∙ ap (λ (o : Option Name). says (bracket_by o) word) (sym e)

pub says_nothing : (x : List ℕ) (t : Option Token) (word : Name) → None ≡ value_by (text_of x t)
    → says (bracket (text_of x t)) word ≡ false
says_nothing x t word e =
    ap (λ (key : Key). says key word) (bracket_value x t)
    ∙ ap (λ (o : Option Name). says (bracket_by o) word) (sym e)

pub key_value : (x : List ℕ) (t : Option Token) (value : Name) (right : Look) (f : Found)
    → Some value ≡ value_by (text_of x t) → key_found (bracket (text_of x t)) right f ≡ with_export value f
key_value x t value right f e =
    ap (λ (key : Key). key_found key right f) (bracket_value x t)
    ∙ ap (λ (o : Option Name). key_found (bracket_by o) right f) (sym e)

pub key_nothing : (x : List ℕ) (t : Option Token) (right : Look) (f : Found) → None ≡ value_by (text_of x t)
    → key_found (bracket (text_of x t)) right f ≡ f
key_nothing x t right f e =
    ap (λ (key : Key). key_found key right f) (bracket_value x t)
    ∙ ap (λ (o : Option Name). key_found (bracket_by o) right f) (sym e)

-- what is required, by its name
abbrev required_look : Option Name → Look
required_look (Some name) = requires name
required_look None = other

required_value : (x : List ℕ) (t : Option Token) → required_by (text_of x t) ≡ required_look (value_by (text_of x t))
required_value x None = refl
required_value x (Some t) = go (str_of x t).value (str_of x t).lone
  where
    go : (value : Name) (b : Bool)
        → (if b then other else requires value) ≡ required_look (if b then None else Some value)
    go value true = refl
    go value false = refl

module _ (x : List ℕ) (t : Option Token) (f : Found) where
  pub starred_value : (value : Name) → Some value ≡ value_by (text_of x t)
      → starred (required_by (text_of x t)) f ≡ with_reexport value f
  starred_value value e =
      ap (λ l. starred l f) (required_value x t) ∙ ap (λ (o : Option Name). starred (required_look o) f) (sym e)

  pub starred_nothing : None ≡ value_by (text_of x t) → starred (required_by (text_of x t)) f ≡ f
  starred_nothing e =
      ap (λ l. starred l f) (required_value x t) ∙ ap (λ (o : Option Name). starred (required_look o) f) (sym e)

  pub bind_value : (name value : Name) → Some value ≡ value_by (text_of x t)
      → bind (Some name) (required_by (text_of x t)) f ≡ with_var name value f
  bind_value name value e =
      ap (λ l. bind (Some name) l f) (required_value x t)
      ∙ ap (λ (o : Option Name). bind (Some name) (required_look o) f) (sym e)

  pub bind_nothing : (name : Name) → None ≡ value_by (text_of x t)
      → bind (Some name) (required_by (text_of x t)) f ≡ f
  bind_nothing name e =
      ap (λ l. bind (Some name) l f) (required_value x t)
      ∙ ap (λ (o : Option Name). bind (Some name) (required_look o) f) (sym e)

  pub set_value : (value : Name) → Some value ≡ value_by (text_of x t)
      → required_found (required_by (text_of x t)) f ≡ with_one_reexport value f
  set_value value e =
      ap (λ l. required_found l f) (required_value x t)
      ∙ ap (λ (o : Option Name). required_found (required_look o) f) (sym e)

  pub set_nothing : None ≡ value_by (text_of x t) → required_found (required_by (text_of x t)) f ≡ f
  set_nothing e =
      ap (λ l. required_found l f) (required_value x t)
      ∙ ap (λ (o : Option Name). required_found (required_look o) f) (sym e)
