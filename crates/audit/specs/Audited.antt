-- Where an auditor begins: the demands and the requests, by name. The `use` lines name the file of each record, to be read beside its place in documents 01
-- and 02. W-204 claims nothing that is new: no answer, byte or contract changed. What every public function's contract must be, and that it is so, is crate
-- `promises`.
use Rattle.base_worked_examples.specs.WorkedExamples.{WorkedExamples}
use Rattle.base_demands.specs.Demands.{Demand1, Demand2, Demand3}
use Rattle.base_wrong_nodes.specs.WrongNodes.{WrongNodes}
use Rattle.base_relay_output.specs.RelayOutput.{RelayOutput}
use Rattle.w201_stations_heard.specs.StationsHeard.{StationsHeard}
use Rattle.w202_serial_exchange.specs.SerialExchange.{SerialExchange}
use Rattle.w203_own_report.specs.OwnReport.{OwnReport}
use Rattle.w205_last_sender.specs.LastSender.{LastSender}
use Rattle.w206_transmit_queue.specs.TransmitQueue.{TransmitQueue}
use Rattle.w207_queue_level.specs.QueueLevel.{QueueLevel}
use Rattle.w208_least_reach.specs.LeastReach.{LeastReach}
use Rattle.planning_own_network.specs.OwnNetwork.{OwnNetwork}
use Rattle.planning_own_network.specs.OwnReach.{OwnReach}
use Rattle.w209_two_editions.specs.TwoEditions.{TwoEditions}
use Rattle.w210_reliable_messages.specs.ReliableMessages.{ReliableMessages}
use Rattle.planning_one_command.specs.OneCommand.{OneCommand}
use Rattle.w211_two_lists.specs.TwoLists.{TwoLists}
use Rattle.w212_encrypted_payloads.specs.EncryptedPayloads.{EncryptedPayloads}

pub record Audited : Type 0 where
  -- the three demands, 01's cases checked by hand, the programs that it wants shut out, and what `relay` prints
  pub total : Demand1
  pub exactly : Demand2
  pub bounded : Demand3
  pub worked_examples : WorkedExamples
  pub wrong_nodes : WrongNodes
  pub printed : RelayOutput
  -- 02's requests
  pub w201 : StationsHeard
  pub w202 : SerialExchange
  pub w203 : OwnReport
  pub w205 : LastSender
  pub w206 : TransmitQueue
  pub w207 : QueueLevel
  pub w208 : LeastReach
  pub w209 : TwoEditions
  pub w210 : ReliableMessages
  pub w211 : TwoLists
  pub w212 : EncryptedPayloads
  -- and of a network of which it is known who hears whom: how often one message goes out, and whom it reaches
  pub own_network : OwnNetwork
  pub own_reach : OwnReach
  -- several messages at once, and what one command and its acknowledgements put on the air
  pub one_command : OneCommand
