-- What an import's text isn't: a URL of its own.
use Rattle.std.proofs.Common.{◌≡◌, ◌∙◌, inl, inr, ap, ℕ, ◌<◌, ◌^◌, List, None, Err, arith}
use Rattle.std.specs.Prelude.{Option}
use Rattle.url.specs.declared.error.ParseError.TheVariants.{RelativeUrlWithoutBase}
use Rattle.url.specs.Input.{trim_c0_control_and_space, strip_tabs_and_new_lines, split_once}
use Rattle.url.specs.Parser.{parse_url, parse_by_scheme, split_scheme}
use Rattle.url.proofs.InputLemmas.{split_once_none}
use Rattle.url.proofs.OnLiterals.{url_on_literals}
use Rattle.made_laws.proofs.Joined.{import_text, visible, untrimmed, unstripped, no_mark}

pub import_unread : (j : ℕ) → j < 2 ^ 64 → parse_url None (import_text j) ≡ Err RelativeUrlWithoutBase
unfolding url_on_literals
import_unread j lj =
    let shown = visible j lj in
    let clean : strip_tabs_and_new_lines (trim_c0_control_and_space (import_text j)) ≡ import_text j
    = ap strip_tabs_and_new_lines (untrimmed (import_text j) shown) ∙ unstripped (import_text j) shown in
    let hash = ap (split_once 35) clean ∙ split_once_none 35 (import_text j) (no_mark 35 (inl (omega arith)) j lj) in
    let question = ap (λ (r : List ℕ × Option (List ℕ)). split_once 63 r.0) hash
    ∙ split_once_none 63 (import_text j) (no_mark 63 (inr (omega arith, omega arith)) j lj) in
    (λ k. parse_by_scheme (split_scheme (question k).0) None (question k).0 (question k).1 (hash k).1)
