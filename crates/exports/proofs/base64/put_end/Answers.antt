-- The bits that are left over are 0, and the bytes stand behind the others.
use Rattle.exports.proofs.Base64Laws.{end_put}
use Rattle.exports.proofs.base64.put_end.Goals as goal

pub returns : goal.returns
returns c = end_put c.args.out.now c.args.n c.args.v c.args.k c.args.unit _ c.requires.few c.requires.room_for c.if-v-unit-ne0.false c.put_three.ensures
