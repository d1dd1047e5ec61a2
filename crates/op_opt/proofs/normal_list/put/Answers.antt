use Rattle.std.proofs.Common.{Err, ◌∙◌, ap}
use Rattle.std.proofs.lemmas.Bool.{both_ways}
use Rattle.op_list.specs.Typing.{may_follow, are_good, stage_of}
use Rattle.op_list.proofs.Typed.{last_is_taken}
use Rattle.op_opt.proofs.normal_list.put.Goals as goal

pub unreachable-requires : goal.unreachable-requires
unreachable-requires c =
    let ops = c.args.list.now in
    let told = c.in-Err-WrongType.is ∙ ap Err c.in-Err-WrongType.field-0-is in
    both_ways (may_follow (stage_of ops) c.args.op) (c.push.ensures.wrong_type.0 told) (last_is_taken ops c.args.op c.requires).follows

pub unreachable-requires-in-Err-BadArgument : goal.unreachable-requires-in-Err-BadArgument
unreachable-requires-in-Err-BadArgument c =
    let ops = c.args.list.now in
    let told = c.in-Err-BadArgument.is ∙ ap Err c.in-Err-BadArgument.field-0-is in
    both_ways (are_good (stage_of ops) c.args.op) (c.push.ensures.bad_argument.0 told).1 (last_is_taken ops c.args.op c.requires).good
