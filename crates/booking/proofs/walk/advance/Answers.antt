use Rattle.booking.proofs.Laid.{behind_fits, advanced}
use Rattle.booking.proofs.walk.advance.Goals as goal

pub open-requires : goal.open-requires
open-requires c = let o = c.read_one-behind in
    let r = c.requires in
    let (l, m) = behind_fits c.args.words.now o.new.words c.args.at c.args.read o.result r.in_bounds.1 o.ensures.left o.ensures.place r.in_bounds.0 r.in_bounds.2 in
    (l, m, r.m_lt_depth_limit.0, r.m_lt_depth_limit.1)

pub returns : goal.returns
returns c = let o = c.read_one-behind in
    let r = c.«open» in
    advanced c.args.words.now o.new.words c.args.at c.args.read o.result c.requires.in_bounds.1 o.ensures.left o.ensures.place r.new.words r.result c.args.p c.args.m c.args.deep r.ensures.left r.ensures.place
