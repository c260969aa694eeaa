-- Every public function of `mant`: its promise asks nothing of the caller and determines what the caller sees.
use mathlib.Core.List.{List}
use mathlib.Core.Logic.{by_cases}
use mathlib.Core.Path.{◌≡◌, refl, sym, ◌∙◌}
use Prim.Native.Nat.{ℕ, ◌≤◌}
use native.Mathlib.Decide.{dec_lt}
use native.Mathlib.Omega.{arith}
use Rattle.promises.specs.Promise.{both, Promised, PromisedWithOutput}
use Rattle.chains.proofs.Outcomes.{one_outcome}
use Rattle.boundary.specs.declared.planning.MantAirtime.{MantAirtime}
use Rattle.boundary.specs.Boundary.{CountsInC, BytesInC}
use Rattle.mant.proofs.reading.mant_read.Reads as mant-read-reads
use Rattle.mant.proofs.reading.mant_read.Kinds as mant-read-kinds
use Rattle.mant.proofs.reading.mant_path_address.Reads as mant-path-address-reads
use Rattle.mant.proofs.reading.mant_path_address.Kinds as mant-path-address-kinds
use Rattle.mant.proofs.reading.mant_path_has.Reads as mant-path-has-reads
use Rattle.mant.proofs.reading.mant_path_has.Kinds as mant-path-has-kinds
use Rattle.mant.proofs.reading.mant_write_again.Reads as mant-write-again-reads
use Rattle.mant.proofs.reading.mant_write_again.Kinds as mant-write-again-kinds
use Rattle.mant.proofs.originating.mant_originate.Reads as mant-originate-reads
use Rattle.mant.proofs.originating.mant_originate.Kinds as mant-originate-kinds
use Rattle.mant.proofs.address_lists.mant_list_fault.Reads as mant-list-fault-reads
use Rattle.mant.proofs.address_lists.mant_list_fault.Kinds as mant-list-fault-kinds
use Rattle.mant.proofs.address_lists.mant_list_holds.Reads as mant-list-holds-reads
use Rattle.mant.proofs.address_lists.mant_list_holds.Kinds as mant-list-holds-kinds
use Rattle.mant.proofs.address_lists.mant_lay_eight.Reads as mant-lay-eight-reads
use Rattle.mant.proofs.address_lists.mant_lay_eight.Kinds as mant-lay-eight-kinds
use Rattle.mant.proofs.a_node.mant_hear.Reads as mant-hear-reads
use Rattle.mant.proofs.a_node.mant_hear.Kinds as mant-hear-kinds
use Rattle.mant.proofs.a_node.mant_step.Reads as mant-step-reads
use Rattle.mant.proofs.a_node.mant_step.Kinds as mant-step-kinds
use Rattle.mant.proofs.a_node.mant_change_over.Reads as mant-change-over-reads
use Rattle.mant.proofs.a_node.mant_change_over.Kinds as mant-change-over-kinds
use Rattle.mant.proofs.planning.mant_chain_lengths.Reads as mant-chain-lengths-reads
use Rattle.mant.proofs.planning.mant_chain_lengths.Kinds as mant-chain-lengths-kinds
use Rattle.mant.proofs.planning.mant_least_hop_limit.Reads as mant-least-hop-limit-reads
use Rattle.mant.proofs.planning.mant_least_hop_limit.Kinds as mant-least-hop-limit-kinds
use Rattle.mant.proofs.planning.mant_network_transmissions.Reads as mant-network-transmissions-reads
use Rattle.mant.proofs.planning.mant_network_transmissions.Kinds as mant-network-transmissions-kinds
use Rattle.mant.proofs.planning.mant_network_bytes.Reads as mant-network-bytes-reads
use Rattle.mant.proofs.planning.mant_network_bytes.Kinds as mant-network-bytes-kinds
use Rattle.mant.proofs.planning.mant_most_transmissions.Reads as mant-most-transmissions-reads
use Rattle.mant.proofs.planning.mant_most_transmissions.Kinds as mant-most-transmissions-kinds
use Rattle.mant.proofs.planning.mant_most_bytes.Reads as mant-most-bytes-reads
use Rattle.mant.proofs.planning.mant_most_bytes.Kinds as mant-most-bytes-kinds
use Rattle.mant.proofs.planning.mant_most_for_command.Reads as mant-most-for-command-reads
use Rattle.mant.proofs.planning.mant_most_for_command.Kinds as mant-most-for-command-kinds
use Rattle.mant.proofs.planning.mant_limits.Reads as mant-limits-reads
use Rattle.mant.proofs.planning.mant_limits.Kinds as mant-limits-kinds
use Rattle.mant.proofs.stations_heard.mant_stations_held.Reads as mant-stations-held-reads
use Rattle.mant.proofs.stations_heard.mant_stations_held.Kinds as mant-stations-held-kinds
use Rattle.mant.proofs.stations_heard.mant_station_at.Reads as mant-station-at-reads
use Rattle.mant.proofs.stations_heard.mant_station_at.Kinds as mant-station-at-kinds
use Rattle.mant.proofs.stations_heard.mant_station_of.Reads as mant-station-of-reads
use Rattle.mant.proofs.stations_heard.mant_station_of.Kinds as mant-station-of-kinds
use Rattle.mant.proofs.stations_heard.mant_remove_station.Reads as mant-remove-station-reads
use Rattle.mant.proofs.stations_heard.mant_remove_station.Kinds as mant-remove-station-kinds
use Rattle.mant.proofs.stations_heard.mant_count_heard.Reads as mant-count-heard-reads
use Rattle.mant.proofs.stations_heard.mant_count_heard.Kinds as mant-count-heard-kinds
use Rattle.mant.proofs.stations_heard.mant_count_answer.Reads as mant-count-answer-reads
use Rattle.mant.proofs.stations_heard.mant_count_answer.Kinds as mant-count-answer-kinds
use Rattle.mant.proofs.stations_heard.mant_hear_and_count.Reads as mant-hear-and-count-reads
use Rattle.mant.proofs.stations_heard.mant_hear_and_count.Kinds as mant-hear-and-count-kinds
use Rattle.mant.proofs.serial_exchange.mant_read_exchange.Reads as mant-read-exchange-reads
use Rattle.mant.proofs.serial_exchange.mant_read_exchange.Kinds as mant-read-exchange-kinds
use Rattle.mant.proofs.serial_exchange.mant_write_exchange.Reads as mant-write-exchange-reads
use Rattle.mant.proofs.serial_exchange.mant_write_exchange.Kinds as mant-write-exchange-kinds
use Rattle.mant.proofs.serial_exchange.mant_element_at.Reads as mant-element-at-reads
use Rattle.mant.proofs.serial_exchange.mant_element_at.Kinds as mant-element-at-kinds
use Rattle.mant.proofs.transmit_queue.mant_queue_level.Reads as mant-queue-level-reads
use Rattle.mant.proofs.transmit_queue.mant_queue_level.Kinds as mant-queue-level-kinds
use Rattle.mant.proofs.transmit_queue.mant_queue_clear.Reads as mant-queue-clear-reads
use Rattle.mant.proofs.transmit_queue.mant_queue_clear.Kinds as mant-queue-clear-kinds
use Rattle.mant.proofs.transmit_queue.mant_queue_add.Reads as mant-queue-add-reads
use Rattle.mant.proofs.transmit_queue.mant_queue_add.Kinds as mant-queue-add-kinds
use Rattle.mant.proofs.transmit_queue.mant_queue_take.Reads as mant-queue-take-reads
use Rattle.mant.proofs.transmit_queue.mant_queue_take.Kinds as mant-queue-take-kinds
use Rattle.mant.proofs.sealing_and_opening.mant_seal.Reads as mant-seal-reads
use Rattle.mant.proofs.sealing_and_opening.mant_seal.Kinds as mant-seal-kinds
use Rattle.mant.proofs.sealing_and_opening.mant_open.Reads as mant-open-reads
use Rattle.mant.proofs.sealing_and_opening.mant_open.Kinds as mant-open-kinds
use Rattle.mant.proofs.sealing_and_opening.mant_message_number.Reads as mant-message-number-reads
use Rattle.mant.proofs.sealing_and_opening.mant_message_number.Kinds as mant-message-number-kinds
use Rattle.mant.proofs.sealing_and_opening.mant_remove_source.Reads as mant-remove-source-reads
use Rattle.mant.proofs.sealing_and_opening.mant_remove_source.Kinds as mant-remove-source-kinds

pub mant_read_lem : Promised 1 mant-read-kinds.ps mant-read-kinds.r mant-read-reads.Asked mant-read-reads.Post (λ κs x. x)
mant_read_lem = (λ κs a. tt, λ κs a x y s t p q. p ∙ sym q)

pub mant_path_address_lem : Promised 1 mant-path-address-kinds.ps mant-path-address-kinds.r mant-path-address-reads.Asked
    mant-path-address-reads.Post (λ κs x. x)
mant_path_address_lem = (λ κs a. tt, λ κs a x y s t p q. p ∙ sym q)

pub mant_path_has_lem : Promised 1 mant-path-has-kinds.ps mant-path-has-kinds.r mant-path-has-reads.Asked mant-path-has-reads.Post (λ κs x. x)
mant_path_has_lem = (λ κs a. tt, λ κs a x y s t p q. p ∙ sym q)

pub mant_write_again_lem : PromisedWithOutput 2 mant-write-again-kinds.ps mant-write-again-kinds.r mant-write-again-reads.Asked
    mant-write-again-reads.Post (λ κs s. s.1.1.0.now)
mant_write_again_lem = (λ κs a. tt, λ κs a x y s t p q. (p.0 ∙ sym q.0, p.1 ∙ sym q.1))

pub mant_originate_lem : PromisedWithOutput 2 mant-originate-kinds.ps mant-originate-kinds.r mant-originate-reads.Asked
    mant-originate-reads.Post (λ κs s. s.1.1.0.now)
mant_originate_lem = (λ κs a. tt, λ κs a x y s t p q. (p.0 ∙ sym q.0, p.1 ∙ sym q.1))

pub mant_list_fault_lem : Promised 1 mant-list-fault-kinds.ps mant-list-fault-kinds.r mant-list-fault-reads.Asked
    mant-list-fault-reads.Post (λ κs x. x)
mant_list_fault_lem = (λ κs a. tt, λ κs a x y s t p q. p ∙ sym q)

pub mant_list_holds_lem : Promised 1 mant-list-holds-kinds.ps mant-list-holds-kinds.r mant-list-holds-reads.Asked mant-list-holds-reads.Post (λ κs x. x)
mant_list_holds_lem = (λ κs a. tt, λ κs a x y s t p q. p ∙ sym q)

pub mant_lay_eight_lem : PromisedWithOutput 2 mant-lay-eight-kinds.ps mant-lay-eight-kinds.r mant-lay-eight-reads.Asked
    mant-lay-eight-reads.Post (λ κs s. s.0.now)
mant_lay_eight_lem = (λ κs a. tt, λ κs a x y s t p q. (p.1 ∙ sym q.1, p.0 ∙ sym q.0))

pub mant_hear_lem : PromisedWithOutput 3 mant-hear-kinds.ps mant-hear-kinds.r mant-hear-reads.Asked
    mant-hear-reads.Post
    (λ κs s. s.1.1.1.0.now)
mant_hear_lem = (λ κs a. tt, λ κs a x y s t p q. (p.0 ∙ sym q.0, p.1 ∙ sym q.1))

pub mant_step_lem : PromisedWithOutput 3 mant-step-kinds.ps mant-step-kinds.r mant-step-reads.Asked
    mant-step-reads.Post
    (λ κs s. s.1.1.1.1.0.now)
mant_step_lem = (λ κs a. tt, λ κs a x y s t p q. (p.0 ∙ sym q.0, p.1 ∙ sym q.1))

pub mant_change_over_lem : Promised 0 mant-change-over-kinds.ps mant-change-over-kinds.r mant-change-over-reads.Asked
    mant-change-over-reads.Post (λ κs x. x)
mant_change_over_lem = (λ κs a. tt, λ κs a x y s t p q. p ∙ sym q)

pub mant_chain_lengths_lem : PromisedWithOutput 3 mant-chain-lengths-kinds.ps mant-chain-lengths-kinds.r mant-chain-lengths-reads.Asked
    mant-chain-lengths-reads.Post (λ κs s. s.1.1.1.1.0.now)
mant_chain_lengths_lem = (λ κs a. tt, λ κs a x y s t p q. one_outcome _ _ _ _ _ x y _ _ p q)

pub mant_least_hop_limit_lem : Promised 1 mant-least-hop-limit-kinds.ps mant-least-hop-limit-kinds.r mant-least-hop-limit-reads.Asked
    mant-least-hop-limit-reads.Post (λ κs x. x)
mant_least_hop_limit_lem = (λ κs a. tt, λ κs a x y s t p q. p ∙ sym q)

-- a count on a network has one outcome
one_count : (pairs marks : List ℕ) (from h price growth enough : ℕ) (counts table : List ℕ) (x y : MantAirtime) (m c t n d u : List ℕ)
    → CountsInC pairs marks from h price growth enough counts table x m c t → CountsInC pairs marks from h price growth enough counts table y n d u
    → (x ≡ y) × (both m (both c t) ≡ both n (both d u))
one_count pairs marks from h price growth enough counts table x y m c t n d u p q = (
  p.0 ∙ sym q.0,
  λ i.
      both ((p.1.marks_kept ∙ sym q.1.marks_kept) i) (both ((p.1.counts_are ∙ sym q.1.counts_are) i) ((p.1.table_is ∙ sym q.1.table_is) i)),
)

pub mant_network_transmissions_lem : PromisedWithOutput 4 mant-network-transmissions-kinds.ps mant-network-transmissions-kinds.r
    mant-network-transmissions-reads.Asked mant-network-transmissions-reads.Post
    (λ κs s. both s.1.1.1.1.0.now (both s.1.1.1.1.1.0.now s.1.1.1.1.1.1.0.now))
mant_network_transmissions_lem = (λ κs a. tt, λ κs a x y s t p q. one_count _ _ _ _ _ _ _ _ _ x y _ _ _ _ _ _ p q)

-- and in bytes, of any size
one_count_of_bytes : (pairs marks : List ℕ) (from h size enough : ℕ) (counts table : List ℕ) (x y : MantAirtime) (m c t n d u : List ℕ)
    → BytesInC pairs marks from h size enough counts table x m c t → BytesInC pairs marks from h size enough counts table y n d u
    → (x ≡ y) × (both m (both c t) ≡ both n (both d u))
one_count_of_bytes pairs marks from h size enough counts table x y m c t n d u p q =
    by_cases (dec_lt 65535 size)
    (λ large.
    let f = p.1 large in
    let g = q.1 large in (
      f.0 ∙ sym g.0,
      λ i. both ((f.1 ∙ sym g.1) i) (both ((f.2 ∙ sym g.2) i) ((f.3 ∙ sym g.3) i)),
    ))
    (λ small.
    let most : size ≤ 65535 = omega (arith, small) in
    one_count pairs marks from h size 2 enough counts table x y m c t n d u (p.0 most) (q.0 most))

pub mant_network_bytes_lem : PromisedWithOutput 4 mant-network-bytes-kinds.ps mant-network-bytes-kinds.r
    mant-network-bytes-reads.Asked mant-network-bytes-reads.Post
    (λ κs s. both s.1.1.1.1.1.0.now (both s.1.1.1.1.1.1.0.now s.1.1.1.1.1.1.1.0.now))
mant_network_bytes_lem = (λ κs a. tt, λ κs a x y s t p q. one_count_of_bytes _ _ _ _ _ _ _ _ x y _ _ _ _ _ _ p q)

pub mant_most_transmissions_lem : Promised 0 mant-most-transmissions-kinds.ps mant-most-transmissions-kinds.r
    mant-most-transmissions-reads.Asked mant-most-transmissions-reads.Post (λ κs x. x)
mant_most_transmissions_lem = (λ κs a. tt, λ κs a x y s t p q. p ∙ sym q)

pub mant_most_bytes_lem : Promised 0 mant-most-bytes-kinds.ps mant-most-bytes-kinds.r mant-most-bytes-reads.Asked mant-most-bytes-reads.Post (λ κs x. x)
mant_most_bytes_lem = (λ κs a. tt, λ κs a x y s t p q. p ∙ sym q)

pub mant_most_for_command_lem : Promised 0 mant-most-for-command-kinds.ps mant-most-for-command-kinds.r mant-most-for-command-reads.Asked
    mant-most-for-command-reads.Post (λ κs x. x)
mant_most_for_command_lem = (λ κs a. tt, λ κs a x y s t p q. p ∙ sym q)

pub mant_limits_lem : Promised 0 mant-limits-kinds.ps mant-limits-kinds.r mant-limits-reads.Asked mant-limits-reads.Post (λ κs x. x)
mant_limits_lem = (λ κs a. tt, λ κs a x y s t p q. p ∙ sym q)

pub mant_stations_held_lem : Promised 1 mant-stations-held-kinds.ps mant-stations-held-kinds.r mant-stations-held-reads.Asked
    mant-stations-held-reads.Post (λ κs x. x)
mant_stations_held_lem = (λ κs a. tt, λ κs a x y s t p q. p ∙ sym q)

pub mant_station_at_lem : Promised 1 mant-station-at-kinds.ps mant-station-at-kinds.r mant-station-at-reads.Asked
    mant-station-at-reads.Post (λ κs x. x)
mant_station_at_lem = (λ κs a. tt, λ κs a x y s t p q. p ∙ sym q)

pub mant_station_of_lem : Promised 1 mant-station-of-kinds.ps mant-station-of-kinds.r mant-station-of-reads.Asked
    mant-station-of-reads.Post (λ κs x. x)
mant_station_of_lem = (λ κs a. tt, λ κs a x y s t p q. p ∙ sym q)

pub mant_remove_station_lem : PromisedWithOutput 1 mant-remove-station-kinds.ps mant-remove-station-kinds.r mant-remove-station-reads.Asked
    mant-remove-station-reads.Post
    (λ κs s. s.0.now)
mant_remove_station_lem = (λ κs a. tt, λ κs a x y s t p q. (p.0 ∙ sym q.0, p.1 ∙ sym q.1))

pub mant_count_heard_lem : PromisedWithOutput 1 mant-count-heard-kinds.ps mant-count-heard-kinds.r mant-count-heard-reads.Asked
    mant-count-heard-reads.Post
    (λ κs s. s.0.now)
mant_count_heard_lem = (λ κs a. tt, λ κs a x y s t p q. (p.0 ∙ sym q.0, p.1 ∙ sym q.1))

pub mant_count_answer_lem : PromisedWithOutput 2 mant-count-answer-kinds.ps mant-count-answer-kinds.r mant-count-answer-reads.Asked
    mant-count-answer-reads.Post
    (λ κs s. s.0.now)
mant_count_answer_lem = (λ κs a. tt, λ κs a x y s t p q. (p.0 ∙ sym q.0, p.1 ∙ sym q.1))

pub mant_hear_and_count_lem : PromisedWithOutput 4 mant-hear-and-count-kinds.ps mant-hear-and-count-kinds.r
    mant-hear-and-count-reads.Asked
    mant-hear-and-count-reads.Post
    (λ κs s. both s.1.1.1.0.now s.1.1.1.1.0.now)
mant_hear_and_count_lem = (
  λ κs a. tt,
  λ κs a x y s t p q. (
    λ i. record { answer = (p.0.0 ∙ sym q.0.0) i; table_number = (p.1 ∙ sym q.1) i },
    λ i. ((p.0.1 ∙ sym q.0.1) i, (p.2 ∙ sym q.2) i),
  ),
)

pub mant_read_exchange_lem : Promised 1 mant-read-exchange-kinds.ps mant-read-exchange-kinds.r mant-read-exchange-reads.Asked
    mant-read-exchange-reads.Post (λ κs x. x)
mant_read_exchange_lem = (λ κs a. tt, λ κs a x y s t p q. p ∙ sym q)

pub mant_write_exchange_lem : PromisedWithOutput 2 mant-write-exchange-kinds.ps mant-write-exchange-kinds.r mant-write-exchange-reads.Asked
    mant-write-exchange-reads.Post (λ κs s. s.1.0.now)
mant_write_exchange_lem = (λ κs a. tt, λ κs a x y s t p q. (p.0 ∙ sym q.0, p.1 ∙ sym q.1))

pub mant_element_at_lem : Promised 1 mant-element-at-kinds.ps mant-element-at-kinds.r mant-element-at-reads.Asked mant-element-at-reads.Post (λ κs x. x)
mant_element_at_lem = (λ κs a. tt, λ κs a x y s t p q. p ∙ sym q)

pub mant_queue_level_lem : Promised 1 mant-queue-level-kinds.ps mant-queue-level-kinds.r mant-queue-level-reads.Asked
    mant-queue-level-reads.Post (λ κs x. x)
mant_queue_level_lem = (λ κs a. tt, λ κs a x y s t p q. p ∙ sym q)

pub mant_queue_clear_lem : PromisedWithOutput 1 mant-queue-clear-kinds.ps mant-queue-clear-kinds.r mant-queue-clear-reads.Asked
    mant-queue-clear-reads.Post (λ κs s. s.0.now)
mant_queue_clear_lem = (λ κs a. tt, λ κs a x y s t p q. (refl, p ∙ sym q))

pub mant_queue_add_lem : PromisedWithOutput 2 mant-queue-add-kinds.ps mant-queue-add-kinds.r mant-queue-add-reads.Asked
    mant-queue-add-reads.Post (λ κs s. s.0.now)
mant_queue_add_lem = (λ κs a. tt, λ κs a x y s t p q. (p.0 ∙ sym q.0, p.1 ∙ sym q.1))

pub mant_queue_take_lem : PromisedWithOutput 2 mant-queue-take-kinds.ps mant-queue-take-kinds.r mant-queue-take-reads.Asked
    mant-queue-take-reads.Post (λ κs s. both s.0.now s.1.0.now)
mant_queue_take_lem = (λ κs a. tt, λ κs a x y s t p q. (p.0 ∙ sym q.0, λ i. ((p.1 ∙ sym q.1) i, (p.2 ∙ sym q.2) i)))

pub mant_seal_lem : PromisedWithOutput 2 mant-seal-kinds.ps mant-seal-kinds.r mant-seal-reads.Asked
    mant-seal-reads.Post (λ κs s. s.1.1.1.0.now)
mant_seal_lem = (λ κs a. tt, λ κs a x y s t p q. (p.0 ∙ sym q.0, p.1 ∙ sym q.1))

pub mant_open_lem : PromisedWithOutput 3 mant-open-kinds.ps mant-open-kinds.r mant-open-reads.Asked
    mant-open-reads.Post (λ κs s. both s.1.0.now s.1.1.1.0.now)
mant_open_lem = (λ κs a. tt, λ κs a x y s t p q. (p.0 ∙ sym q.0, λ i. ((p.2 ∙ sym q.2) i, (p.1 ∙ sym q.1) i)))

pub mant_message_number_lem : Promised 1 mant-message-number-kinds.ps mant-message-number-kinds.r mant-message-number-reads.Asked
    mant-message-number-reads.Post (λ κs x. x)
mant_message_number_lem = (λ κs a. tt, λ κs a x y s t p q. p ∙ sym q)

pub mant_remove_source_lem : PromisedWithOutput 1 mant-remove-source-kinds.ps mant-remove-source-kinds.r mant-remove-source-reads.Asked
    mant-remove-source-reads.Post (λ κs s. s.0.now)
mant_remove_source_lem = (λ κs a. tt, λ κs a x y s t p q. (p.0 ∙ sym q.0, p.1 ∙ sym q.1))
