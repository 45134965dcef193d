use Rattle.std.proofs.Common.{rules, ◌∙◌, ◌≡◌, ◌++◌, ◌∷◌, ◌%◌, ap, [], to_z, of_z, w32, string_bytes}
use Rattle.std.specs.Fmt.{decimal, signed_decimal}
use Rattle.tall_words.specs.Demo.{row_text}
use Rattle.tall_words.proofs.demo.push_row.Goals as goal

pub returns : goal.returns
returns c =
    let kept : to_z w32 (of_z w32 c.number_of-number.result) ≡ c.number_of-number.result = search rules in
    let row : string_bytes c.in_ok-row.row ≡ row_text c.args.r =
    c.in_ok-row.ensures.ok ∙ ap (λ n. 103 ∷ (decimal (c.args.r % 5) ++ (44 ∷ (signed_decimal n ++ (10 ∷ []))))) (kept ∙ c.number_of-number.ensures) in
    search (rules, row)
