use Rattle.std.proofs.Common.{◌∙◌, arith, length-set}
use Rattle.shell.proofs.Places.{apex_found, apex_none}
use Rattle.shell.proofs.Runs.{more, finish, long_left, room_left}
use Rattle.shell.proofs.links.Links.clip.Goals as goal

-- the vertex that was found is the apex
pub turn-requires-clause-top : goal.turn-requires-clause-top
turn-requires-clause-top c =
    let long = long_left c.args.self.now.masks c.loop-v.self.masks c.loop-v.out c.loop-v.n c.requires c.loop-v.invariant.progress in
    (apex_found c.loop-v.self.masks c.in-Some.v long c.in-Some.ensures).0

-- there is room for the triangle of this turn
pub bounds-out-n : goal.bounds-out-n
bounds-out-n c =
    let long = long_left c.args.self.now.masks c.loop-v.self.masks c.loop-v.out c.loop-v.n c.requires c.loop-v.invariant.progress in
    let top = apex_found c.loop-v.self.masks c.in-Some.v long c.in-Some.ensures in
    room_left c.args.self.now.masks c.loop-v.self.masks c.loop-v.out c.loop-v.n c.requires c.loop-v.invariant.progress (omega arith)

pub loop-v-smaller : goal.loop-v-smaller
loop-v-smaller c = let room = bounds-out-n c in omega arith

pub loop-v-preserved : goal.loop-v-preserved
loop-v-preserved c =
    let room = bounds-out-n c in record {
      long = length-set c.loop-v.out c.loop-v.n c.turn.result ∙ c.loop-v.invariant.long;
      in_room = omega arith;
      progress = λ ss m t.
          let g = c.loop-v.invariant.progress ss m t in
          more ss c.loop-v.self.masks c.turn.new.self.masks c.loop-v.out c.loop-v.n c.turn.result g (omega arith) (c.turn.ensures g.rest g.means g.tame);
    }

pub returns-clause-done : goal.returns-clause-done
returns-clause-done c = λ ss m t.
    let g = c.loop-v.invariant.progress ss m t in
    finish ss c.loop-v.self.masks c.loop-v.out c.loop-v.n g (apex_none c.loop-v.self.masks g.means.long c.in_default.ensures)
