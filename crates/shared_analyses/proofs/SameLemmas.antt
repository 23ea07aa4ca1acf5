-- URLs are the same where their parts are, and answers where theirs are.
use Rattle.std.proofs.Common.{◌≡◌, ℕ, Bool, true, false, cond, List, [], ◌∷◌, refl, sym, ap, ◌∙◌, Option, Some, None}
use Rattle.std.specs.Prelude.{not, is_some, unwrap_or, bytes_eq, ◌&&◌, String, string_bytes}
use Rattle.std.specs.Cmp.Lexicographic.{pointwise, nat_list_eq_equiv, same_text}
use Rattle.url.specs.declared.host.Host.{Host}
use Rattle.url.specs.declared.host.Host.TheVariants.{Domain, Ipv4, Ipv6}
use Rattle.url.specs.Input.{is_empty}
use Rattle.url.specs.Host.{is_empty_host}
use Rattle.url.proofs.InputLemmas.{is_empty-nil}
use Rattle.url.specs.Parts.{Parts}
use Rattle.graph_entry.specs.Headers.{header_of, headers_of}
use Rattle.shared_analyses.specs.Same.{HaveSameFronts, HaveSameHosts, HaveSameEnds}

-- ---- hosts

abbrev told : Option (Host (List ℕ)) → Option (Host (List ℕ))
told o = cond (not (is_empty_host (unwrap_or o (Domain [])))) o None

empty_domain : (h : Host (List ℕ)) → is_empty_host h ≡ true → h ≡ Domain []
empty_domain (Domain domain) e = ap Domain (is_empty-nil domain e)
empty_domain (Ipv4 address) e = absurd cc
empty_domain (Ipv6 address) e = absurd cc

host_from : (o p : Option (Host (List ℕ))) → is_some o ≡ is_some p → told o ≡ told p → o ≡ p
host_from None None h g = refl
host_from None (Some k) h g = absurd cc
host_from (Some j) None h g = absurd cc
host_from (Some j) (Some k) h g = by (is_empty_host j) refl (is_empty_host k) refl g
  where
    by : (a : Bool) → is_empty_host j ≡ a → (b : Bool) → is_empty_host k ≡ b
        → cond (not a) (Some j) None ≡ cond (not b) (Some k) None → Some j ≡ Some k
    by false e false f same = same
    by true e true f same = ap Some (empty_domain j e ∙ sym (empty_domain k f))
    by true e false f same = absurd cc
    by false e true f same = absurd cc

-- ---- URLs

pub same_urls : (a b : Parts) → HaveSameFronts a b → HaveSameHosts a b → HaveSameEnds a b → a ≡ b
same_urls a b f h e =
    let host : a.host ≡ b.host = host_from a.host b.host h.authority h.host in λ i. record {
      scheme = f.scheme i;
      username = f.username i;
      password = f.password i;
      host = host i;
      port = h.port i;
      path = e.path i;
      query = e.query i;
      fragment = e.fragment i;
    }

pub same_passwords : (a b : List ℕ) → cond (is_empty a) None (Some a) ≡ cond (is_empty b) None (Some b) → a ≡ b
same_passwords a b h = by (is_empty a) refl (is_empty b) refl h
  where
    by : (c : Bool) → is_empty a ≡ c → (d : Bool) → is_empty b ≡ d
        → ◌≡◌ {A = Option (List ℕ)} (cond c None (Some a)) (cond d None (Some b)) → a ≡ b
    by true e true f g = is_empty-nil a e ∙ sym (is_empty-nil b f)
    by true e false f g = absurd cc
    by false e true f g = absurd cc
    by false e false f g = cc

-- ---- headers

same_header : {A : Type 0} (p q : String A × String A)
    → (bytes_eq (string_bytes p.0) (string_bytes q.0) && bytes_eq (string_bytes p.1) (string_bytes q.1)) ≡ true
    → header_of p ≡ header_of q
same_header p q h = by (bytes_eq (string_bytes p.0) (string_bytes q.0)) refl h
  where
    by : (b : Bool) → bytes_eq (string_bytes p.0) (string_bytes q.0) ≡ b
        → (b && bytes_eq (string_bytes p.1) (string_bytes q.1)) ≡ true → header_of p ≡ header_of q
    by true e g = λ i. (
      same_text (string_bytes p.0) (string_bytes q.0) (sym e) i,
      same_text (string_bytes p.1) (string_bytes q.1) (sym g) i,
    )
    by false e g = absurd cc

pub same_headers : {A : Type 0} (xs ys : List (String A × String A))
    → pointwise (λ p q. bytes_eq (string_bytes p.0) (string_bytes q.0) && bytes_eq (string_bytes p.1)
    (string_bytes q.1)) xs ys ≡ true
    → headers_of xs ≡ headers_of ys
same_headers [] [] h = refl
same_headers [] (y ∷ ys) h = absurd cc
same_headers (x ∷ xs) [] h = absurd cc
same_headers (x ∷ xs) (y ∷ ys) h =
    by (bytes_eq (string_bytes x.0) (string_bytes y.0) && bytes_eq (string_bytes x.1) (string_bytes y.1)) refl
    (same_headers xs ys) h
  where
    by : (b : Bool) → (bytes_eq (string_bytes x.0) (string_bytes y.0) && bytes_eq (string_bytes x.1)
        (string_bytes y.1)) ≡ b
        → (pointwise (λ p q. bytes_eq (string_bytes p.0) (string_bytes q.0) && bytes_eq (string_bytes p.1)
        (string_bytes q.1)) xs ys ≡ true → headers_of xs ≡ headers_of ys)
        → (b && pointwise (λ p q. bytes_eq (string_bytes p.0) (string_bytes q.0) && bytes_eq (string_bytes p.1)
        (string_bytes q.1)) xs ys) ≡ true
        → headers_of (x ∷ xs) ≡ headers_of (y ∷ ys)
    by true e rest g = λ i. same_header x y e i ∷ rest g i
    by false e rest g = absurd cc

equal_text : (a b : List ℕ) → a ≡ b → bytes_eq a b ≡ true
equal_text a b h = ap (bytes_eq a) (sym h) ∙ nat_list_eq_equiv.refl a

pub equal_headers : {A : Type 0} (xs ys : List (String A × String A)) → headers_of xs ≡ headers_of ys
    → pointwise (λ p q. bytes_eq (string_bytes p.0) (string_bytes q.0) && bytes_eq (string_bytes p.1)
    (string_bytes q.1))
    xs ys ≡ true
equal_headers [] [] h = refl
equal_headers [] (y ∷ ys) h = absurd cc
equal_headers (x ∷ xs) [] h = absurd cc
equal_headers (x ∷ xs) (y ∷ ys) h =
    let first : header_of x ≡ header_of y = cc in
    let rest : headers_of xs ≡ headers_of ys = cc in
    rw (
      equal_text (string_bytes x.0) (string_bytes y.0) (ap (λ (p : List ℕ × List ℕ). p.0) first),
      equal_text (string_bytes x.1) (string_bytes y.1) (ap (λ (p : List ℕ × List ℕ). p.1) first),
      equal_headers xs ys rest,
    ) refl
