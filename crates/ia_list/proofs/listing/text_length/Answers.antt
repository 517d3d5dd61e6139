use Rattle.std.proofs.Common.{◌≡◌, ◌+◌, ◌++◌, length, subst, sym, ap, ◌∙◌, arith, rules}
use Rattle.ia_list.specs.Text.{line}
use Rattle.ia_list.proofs.CodeListed.{IsCountedTo, counted_on}
use Rattle.ia_list.proofs.listing.text_length.Goals as goal

pub lines-preserved : goal.lines-preserved
lines-preserved c =
    let longer : c.in-Some.longer ≡ c.lines.count + length c.push_next.new.out.items =
    first_of (search rules, grind arith) in
    let f = c.in_ok-place.ensures in
    subst (λ n. IsCountedTo c.as_slice-code.result.now c.args.image.now.data_words
    c.in_ok-place.place n) (sym longer)
    (counted_on c.lines.invariant c.in_ok-place.place c.push_next.new.out.items
    (f.0, f.1, f.2, f.3, f.4 ∙ ap (λ l. l ++ line c.lines.place f.0) c.clear.ensures.items))
