use Rattle.std.proofs.Common.{Fits, rules, w64}
use Rattle.tall_scan.proofs.Bits.{words_scan}
use Rattle.tall_scan.proofs.words.mark.Goals as goal

pub returns : goal.returns
returns c =
    let small : Fits w64 c.without-ends.result = search rules in
    words_scan c.args.v c.args.delimiter c.args.carry.inside c.args.carry.opens c.args.carry.line c.equals-quotes.result c.line_ends-lines.result c.equals-delimiters.result
    c.parity-inside.result c.after-inside_before.result c.without-opens.result c.after-opens_before.result c.without.result c.without-line.result c.after-line_before.result
    c.without-ends.result c.requires c.fits-v.0
    (record {
      quotes = c.equals-quotes.ensures;
      lines = c.line_ends-lines.ensures;
      delimiters = c.equals-delimiters.ensures;
      inside_before = c.after-inside_before.ensures;
      parity = c.if-inside-inside_before.false;
      opens = c.without-opens.ensures;
      opens_before = c.after-opens_before.ensures;
      barred = c.without.ensures;
      none_barred = c.if-without-ne0.false;
      line = c.without-line.ensures;
      line_before = c.after-line_before.ensures;
      ends = c.without-ends.ensures;
      fits = small.fits;
    })
    c.last.result c.last-2.result c.last-3.result c.last.ensures c.last-2.ensures c.last-3.ensures
