use Rattle.std.proofs.Common.{◌≡◌, ◌+◌, ◌&&◌, true, false, [], drop, arith, ap, sym, ◌∙◌}
use Rattle.std.specs.Prelude.{slice_range}
use Rattle.std.proofs.lemmas.List.Edits.{between_more}
use Rattle.msg_dict.specs.Format.{are_words, is_word}
use Rattle.msg_dict.proofs.Formats.{words_blank, words_more, empty_range}
use Rattle.msg_dict.proofs.words.is_format.Goals as goal
use Rattle.msg_dict.proofs.words.is_format.Goals.{then-text-at-eq32+else-not-is_word, else-text-at-eq32}

pub loop-at-preserved : goal.loop-at-preserved
loop-at-preserved c =
    let text = c.args.text.now in
    let at = c.loop-at.at in
    let l = c.loop-at in
    let word = slice_range text l.from at in
    let all = are_words true [] text in
    let inside = c.loop-at-test.true in
    elim c.if-text-at-eq32.branch [
      | then-text-at-eq32+else-not-is_word w ↦
          let good : is_word l.first (slice_range text l.from at) ≡ true = sym w.is_word.ensures ∙ w.if-not-is_word.false in
          let blank = words_blank text l.first word at all inside l.invariant.same w.if-text-at-eq32.true in
          record {
            within = omega (arith, w.from-is);
            same = rw (w.first-is, w.from-is, empty_range text (at + 1)) (sym (ap (λ b. b && are_words false [] (drop (at + 1) text)) good) ∙ blank);
          }
      | else-text-at-eq32 w ↦
          let more = words_more text l.first word at all inside l.invariant.same w.if-text-at-eq32.false in
          record { within = omega (arith, w.from-is, l.invariant.within); same = rw (w.first-is, w.from-is, between_more text l.from at 0 l.invariant.within inside) more }
    ]
