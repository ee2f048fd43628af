mod FnvLaws
mod PieceLaws
