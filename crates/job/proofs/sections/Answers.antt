use Prim.Native.Nat.{◌<◌, ◌^◌}
use lib.ListN.{length}
use native.Mathlib.Omega.{arith}
use Rattle.job.proofs.Steps.{refused_here, next_list, next_batch, end_fits, batch_end_fits}
use Rattle.job.proofs.Steps.{after_second, after_third, after_fourth, after_batch, begun, left_over, whole}
use Rattle.job.proofs.sections.Goals as goal

pub returns-in_default : goal.returns-in_default
returns-in_default c =
    let b = c.args.bytes.now in let own = c.args.own in let flags = c.args.flags in
    let first = begun own flags b c.list_at-first.ensures in
    refused_here first c.unwrap_err.ensures

pub returns-in_default-second : goal.returns-in_default-second
returns-in_default-second c =
    let b = c.args.bytes.now in let own = c.args.own in let flags = c.args.flags in
    let first = begun own flags b c.list_at-first.ensures in
    let second = next_list _ (after_second own flags b) first c.in-Ok.is c.list_end.ensures c.list_at-second.ensures in
    refused_here second c.unwrap_err-in_default-second.ensures

pub returns-in_default-third : goal.returns-in_default-third
returns-in_default-third c =
    let b = c.args.bytes.now in let own = c.args.own in let flags = c.args.flags in
    let first = begun own flags b c.list_at-first.ensures in
    let second = next_list _ (after_second own flags b) first c.in-Ok.is c.list_end.ensures c.list_at-second.ensures in
    let third = next_list _ (after_third own flags b c.in-Ok.source_pass) second c.in-Ok-second.is c.list_end-2.ensures c.list_at-third.ensures in
    refused_here third c.unwrap_err-in_default-third.ensures

pub returns-in_default-fourth : goal.returns-in_default-fourth
returns-in_default-fourth c =
    let b = c.args.bytes.now in let own = c.args.own in let flags = c.args.flags in
    let p = c.in-Ok.source_pass in let r = c.in-Ok-second.source_reject in
    let first = begun own flags b c.list_at-first.ensures in
    let second = next_list _ (after_second own flags b) first c.in-Ok.is c.list_end.ensures c.list_at-second.ensures in
    let third = next_list _ (after_third own flags b p) second c.in-Ok-second.is c.list_end-2.ensures c.list_at-third.ensures in
    let fourth = next_list _ (after_fourth own flags b p r) third c.in-Ok-third.is c.list_end-3.ensures c.list_at-fourth.ensures in
    refused_here fourth c.unwrap_err-in_default-fourth.ensures

pub returns-in_default-last : goal.returns-in_default-last
returns-in_default-last c =
    let b = c.args.bytes.now in let own = c.args.own in let flags = c.args.flags in
    let p = c.in-Ok.source_pass in let r = c.in-Ok-second.source_reject in let d = c.in-Ok-third.destination_pass in
    let first = begun own flags b c.list_at-first.ensures in
    let second = next_list _ (after_second own flags b) first c.in-Ok.is c.list_end.ensures c.list_at-second.ensures in
    let third = next_list _ (after_third own flags b p) second c.in-Ok-second.is c.list_end-2.ensures c.list_at-third.ensures in
    let fourth = next_list _ (after_fourth own flags b p r) third c.in-Ok-third.is c.list_end-3.ensures c.list_at-fourth.ensures in
    let last = next_batch _ (after_batch own flags b p r d) fourth c.in-Ok-fourth.is c.list_end-4.ensures c.batch_at-last.ensures in
    refused_here last c.unwrap_err-in_default-last.ensures

pub list_end-requires : goal.list_end-requires
list_end-requires c =
    let few : length c.args.bytes.now < 2 ^ 64 = omega arith in
    end_fits _ 3 few c.list_at-first.ensures c.in-Ok.is

pub list_end-requires-2 : goal.list_end-requires-2
list_end-requires-2 c =
    let few : length c.args.bytes.now < 2 ^ 64 = omega arith in
    end_fits _ c.list_end.result few c.list_at-second.ensures c.in-Ok-second.is

pub list_end-requires-3 : goal.list_end-requires-3
list_end-requires-3 c =
    let few : length c.args.bytes.now < 2 ^ 64 = omega arith in
    end_fits _ c.list_end-2.result few c.list_at-third.ensures c.in-Ok-third.is

pub list_end-requires-4 : goal.list_end-requires-4
list_end-requires-4 c =
    let few : length c.args.bytes.now < 2 ^ 64 = omega arith in
    end_fits _ c.list_end-3.result few c.list_at-fourth.ensures c.in-Ok-fourth.is

pub overflow_add-batch : goal.overflow_add-batch
overflow_add-batch c =
    let few : length c.args.bytes.now < 2 ^ 64 = omega arith in
    record { fits = batch_end_fits _ c.list_end-4.result few c.batch_at-last.ensures c.in-Ok-last.is }

pub returns-then-batch-bytes : goal.returns-then-batch-bytes
returns-then-batch-bytes c =
    let b = c.args.bytes.now in let own = c.args.own in let flags = c.args.flags in
    let p = c.in-Ok.source_pass in let r = c.in-Ok-second.source_reject in let d = c.in-Ok-third.destination_pass in
    let first = begun own flags b c.list_at-first.ensures in
    let second = next_list _ (after_second own flags b) first c.in-Ok.is c.list_end.ensures c.list_at-second.ensures in
    let third = next_list _ (after_third own flags b p) second c.in-Ok-second.is c.list_end-2.ensures c.list_at-third.ensures in
    let fourth = next_list _ (after_fourth own flags b p r) third c.in-Ok-third.is c.list_end-3.ensures c.list_at-fourth.ensures in
    let last = next_batch _ (after_batch own flags b p r d) fourth c.in-Ok-fourth.is c.list_end-4.ensures c.batch_at-last.ensures in
    left_over own flags b p r d c.in-Ok-fourth.destination_reject c.in-Ok-last.batch last c.in-Ok-last.is c.if-batch-bytes.true

pub returns : goal.returns
returns c =
    let b = c.args.bytes.now in let own = c.args.own in let flags = c.args.flags in
    let p = c.in-Ok.source_pass in let r = c.in-Ok-second.source_reject in let d = c.in-Ok-third.destination_pass in
    let first = begun own flags b c.list_at-first.ensures in
    let second = next_list _ (after_second own flags b) first c.in-Ok.is c.list_end.ensures c.list_at-second.ensures in
    let third = next_list _ (after_third own flags b p) second c.in-Ok-second.is c.list_end-2.ensures c.list_at-third.ensures in
    let fourth = next_list _ (after_fourth own flags b p r) third c.in-Ok-third.is c.list_end-3.ensures c.list_at-fourth.ensures in
    let last = next_batch _ (after_batch own flags b p r d) fourth c.in-Ok-fourth.is c.list_end-4.ensures c.batch_at-last.ensures in
    whole own flags b p r d c.in-Ok-fourth.destination_reject c.in-Ok-last.batch last c.in-Ok-last.is c.if-batch-bytes.false
