-- All of it, each from its crate.
use Rattle.base_worked_examples.proofs.WorkedExamples.{worked_examples}
use Rattle.base_demands.proofs.Demands.{total, exactly, bounded}
use Rattle.base_wrong_nodes.proofs.WrongNodes.{wrong_nodes}
use Rattle.base_relay_output.proofs.RelayOutput.{relay_output}
use Rattle.w201_stations_heard.proofs.StationsHeard.{stations_heard}
use Rattle.w202_serial_exchange.proofs.SerialExchange.{serial_exchange}
use Rattle.w203_own_report.proofs.OwnReport.{own_report}
use Rattle.w205_last_sender.proofs.LastSender.{last_sender_lem}
use Rattle.w206_transmit_queue.proofs.TransmitQueue.{transmit_queue}
use Rattle.w207_queue_level.proofs.QueueLevel.{queue_level}
use Rattle.w208_least_reach.proofs.LeastReach.{least_reach}
use Rattle.planning_own_network.proofs.OwnNetwork.{own_network}
use Rattle.planning_own_network.proofs.OwnReach.{own_reach}
use Rattle.w209_two_editions.proofs.TwoEditions.{two_editions}
use Rattle.w210_reliable_messages.proofs.ReliableMessages.{reliable_messages}
use Rattle.planning_one_command.proofs.OneCommand.{one_command}
use Rattle.w211_two_lists.proofs.TwoLists.{two_lists}
use Rattle.w212_encrypted_payloads.proofs.EncryptedPayloads.{encrypted_payloads}
use Rattle.audit.specs.Audited.{Audited}

pub audited : Audited
audited =
    record {
      total = total;
      exactly = exactly;
      bounded = bounded;
      worked_examples = worked_examples;
      wrong_nodes = wrong_nodes;
      printed = relay_output;
      w201 = stations_heard;
      w202 = serial_exchange;
      w203 = own_report;
      w205 = last_sender_lem;
      w206 = transmit_queue;
      w207 = queue_level;
      w208 = least_reach;
      w209 = two_editions;
      w210 = reliable_messages;
      w211 = two_lists;
      w212 = encrypted_payloads;
      own_network = own_network;
      own_reach = own_reach;
      one_command = one_command;
    }
