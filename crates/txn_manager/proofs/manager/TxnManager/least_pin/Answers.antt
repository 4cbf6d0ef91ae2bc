use Rattle.std.proofs.Common.{◌∙◌, rules, tests, sym, ap, min}
use Rattle.std.specs.List.{reduce}
use Rattle.std.proofs.lemmas.Iterator.{YieldsList-from_slice}
use Rattle.std.proofs.lemmas.Iterator.Adapters.{option_map_id}
use Rattle.std.proofs.lemmas.Iterator.Consumers.{YieldsList-from_filter_map, min_from_yields_List}
use Rattle.txn_manager.specs.declared.history.PassHistory.{PassHistory}
use Rattle.txn_manager.specs.Manager.{Manager, least_pin_of}
use Rattle.txn_manager.proofs.ViewLemmas.{starts-kept}
use Rattle.txn_manager.proofs.manager.TxnManager.least_pin.Goals as goal

pub returns : goal.returns
returns c =
    sym (option_map_id _)
    ∙ min_from_yields_List _ _ c.min.ensures.ran (YieldsList-from_filter_map _ (λ (h : PassHistory). h.start) (YieldsList-from_slice c.self.inside.passes.items cc) c.filter_map.ensures.closure (λ x r q k. search (rules, tests)))
    ∙ ap (reduce min) (sym (starts-kept c.self.inside.passes.items)) ∙ ap (λ (m : Manager). least_pin_of m) c.self.view_is
