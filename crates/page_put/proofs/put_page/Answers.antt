-- `page_put::put_page` meets its contract. Assumes nothing.
use native.Mathlib.Omega.{arith}
use Rattle.page_put.proofs.Pages.{page_put}
use Rattle.page_put.proofs.put_page.Goals as goal

pub returns : goal.returns
returns c =
    record {
      put = page_put c.args.rows.now c.put_heading-body.ensures.put c.put_rows-foot.ensures.put c.put_foot.ensures.put;
      value = omega (arith, c.put_heading-body.ensures.value, c.put_rows-foot.ensures.value, c.put_foot.ensures.value);
    }
