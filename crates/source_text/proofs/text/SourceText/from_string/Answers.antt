use Rattle.std.specs.Prelude.{IsUtf8}
use Rattle.std.proofs.Common.{◌≡◌, ◌∙◌, sym, ap, subst, string_bytes, arith}
use Rattle.std.proofs.lemmas.Str.{IsUtf8-string_bytes}
use Rattle.source_text.proofs.text.SourceText.from_string.Goals as goal

-- the bytes of a string are UTF-8
pub invariant_of-result : goal.invariant_of-result
invariant_of-result c =
    let same : c.in_ok-from_vec.field-0 ≡ string_bytes c.args.text
    = c.in_ok-from_vec.ensures ∙ ap (λ v. v.items) c.into_bytes.ensures.value in (
      omega arith,
      subst IsUtf8 (sym same) (IsUtf8-string_bytes c.args.text),
    )
