use Rattle.std.proofs.Common.{◌≡◌, ◌∙◌, ◌∷◌, ◌++◌, [], ap, sym, subst, arith, map, length, length-append, append_assoc}
use Rattle.atomic_table.specs.Table.{rest}
use Rattle.latch_table.specs.Several.{taken_of, laid_of, words_of, laid_word, AreHeldFit, AreLaid}
use Rattle.latch_table.proofs.SeveralLemmas.{taken-snoc, laid-snoc, fit-snoc, more_laid, more_words, same_word}
use Rattle.latch_table.proofs.cells.Cells.put_back_all.Goals as goal

pub put_back-done-requires-clause-holds : goal.put_back-done-requires-clause-holds
put_back-done-requires-clause-holds g c =
    let h = c.back.invariant in
    let vacant = g.V.Slot.vacant in
    let items : c.back.held.items ≡ c.pop.new.self.items ++ c.in-Some.one ∷ [] = c.in-Some.ensures.items in
    let lies = h.7.1 ∙ ap (λ l. l ++ h.7.0) (ap (taken_of vacant) items
    ∙ taken-snoc vacant c.pop.new.self.items c.in-Some.one) in
    lies ∙ ap (λ l. (c.in-Some.one.cell, vacant) ∷ rest l) (sym lies)

pub back-preserved : goal.back-preserved
back-preserved g c =
    let h = c.back.invariant in
    let key = c.args.self.now.table.now.key in
    let words = c.args.self.now.table.now.table_id.words in
    let vacant = g.V.Slot.vacant in
    let one = c.in-Some.one in
    let left = c.pop.new.self.items in
    let items : c.back.held.items ≡ left ++ one ∷ [] = c.in-Some.ensures.items in
    let lies = h.7.1 ∙ ap (λ l. l ++ h.7.0) (ap (taken_of vacant) items ∙ taken-snoc vacant left one) in
    let fit = fit-snoc (g.V.Slot.fits key) words left one
    (subst (AreHeldFit (g.V.Slot.fits key) words) items h.4) in
    let e = c.put_back-done.ensures in
    let done = c.put_back-done.result in
    let pushed = c.in-Ok.ensures.items in (
      e.pass,
      e.view ∙ h.1,
      (let same = c.pop.ensures.capacity in let old = h.2 in omega arith),
      (let more = c.push.ensures.capacity in let old = h.3 in omega arith),
      fit.0,
      (let room = h.5 in let cap = c.push.ensures.capacity in let more = ap length pushed
          ∙ length-append c.back.laid.items (done ∷ []) in let fewer = ap length items
          ∙ length-append left (one ∷ []) in omega arith),
      (
          let same = same_word _ done one e.laid.0 e.laid.1 e.laid.2 in
          let before = h.6 ∙ ap (λ l. map laid_word c.back.laid.items ++ words_of l) items in
          subst (λ l. words_of c.args.held.now.items ≡ map laid_word l ++ words_of left) (sym pushed)
          (more_words c.back.laid.items done one left _ same before)
          ),
      (
        h.7.0 ++ (one.cell, one.value) ∷ [],
        e.slots ∙ ap (λ l. rest l ++ (one.cell, one.value) ∷ []) lies
            ∙ append_assoc (taken_of vacant left) h.7.0 ((one.cell, one.value) ∷ []),
        h.7.2 ∙ ap (λ l. h.7.0 ++ l) (ap laid_of items ∙ laid-snoc left one)
            ∙ sym (append_assoc h.7.0 ((one.cell, one.value) ∷ []) (laid_of left)),
        subst (λ l. AreLaid (g.V.Slot.fits key) words l (h.7.0 ++ (one.cell, one.value) ∷ [])) (sym pushed)
            (more_laid (g.V.Slot.fits key) words c.back.laid.items h.7.0 done one.value one.cell h.7.3 e.laid.0
            fit.1.0 fit.1.1),
      ),
    )
